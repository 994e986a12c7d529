-- Why a text says no bytes of a part.
use Rattle.std.specs.Prelude.{◌≡◌, ◌≢◌, ◌⊎◌, ◌+◌, ℕ, List, [], ◌∷◌, ◌++◌, length}
use Rattle.ee_shell.specs.Dumps.intel_hex.Record.{Record, IsLineOf}
use Rattle.ee_shell.specs.Dumps.intel_hex.Text.{AgreeWithin, IsEndLine, IsGoodFront, all_placed}
use Rattle.ee_shell.specs.declared.dumps.intel_hex.fault.HexFault.{HexFault}
use Rattle.ee_shell.specs.declared.dumps.intel_hex.fault.HexFault.TheVariants.{BadLine, Memory}

-- behind these records no record's line that agrees with them stands at the front
abbrev pub NoGoodLine : ℕ → ℕ → List Record → List ℕ → Type 0
NoGoodLine base size records text =
    (r : Record) (rest : List ℕ) → IsLineOf r text rest
    → AgreeWithin base size (all_placed 0 (records ++ r ∷ [])) → ⊥

-- line n is the first that is no good record's. A line that isn't ended by a line feed is bad, and
-- so is one that is missing.
pub record StopsAtLine (text : List ℕ) (base size n : ℕ) : Type 0 where
  pub records : List Record
  pub rest : List ℕ
  pub front : IsGoodFront base size records text rest
  pub none : NoGoodLine base size records rest
  pub number : n ≡ length records + 1

-- line n is the one behind the end record
pub record GoesOnAt (text : List ℕ) (base size n : ℕ) : Type 0 where
  pub records : List Record
  pub closing : List ℕ
  pub rest : List ℕ
  pub front : IsGoodFront base size records text closing
  pub closes : IsEndLine closing rest
  pub more : rest ≢ []
  pub number : n ≡ length records + 2

-- line n is the first bad one
abbrev pub IsBadHexLine : List ℕ → ℕ → ℕ → ℕ → Type 0
IsBadHexLine text base size n = StopsAtLine text base size n ⊎ GoesOnAt text base size n

-- the line is the first bad one, or memory ran out
abbrev pub IsHexFault : List ℕ → ℕ → ℕ → HexFault → Type 0
IsHexFault text base size (BadLine n) = IsBadHexLine text base size n
IsHexFault text base size Memory = Unit {0}
