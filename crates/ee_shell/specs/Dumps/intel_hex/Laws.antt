-- What holds of every text and all bytes.
use Rattle.std.specs.Prelude.{◌≡◌, ◌⊎◌, ◌^◌, ◌+◌, ◌<◌, ◌≤◌, List, ℕ, length}
use Rattle.hex.specs.Hex.{IsBytes}
use Rattle.ee_shell.specs.Dumps.intel_hex.Text.{IsHexOf}
use Rattle.ee_shell.specs.Dumps.intel_hex.Fault.{IsBadHexLine}
use Rattle.ee_shell.specs.Dumps.intel_hex.Written.{hex_text, sparse_text}

-- a text that is written reads back
abbrev pub TextsReadBack : Type 0
TextsReadBack =
    (base : ℕ) (bytes : List ℕ) → IsBytes bytes → base + length bytes ≤ 2 ^ 32
    → IsHexOf (hex_text base bytes) base (length bytes) bytes

-- and so does one without the erased words
abbrev pub SparseTextsReadBack : Type 0
SparseTextsReadBack =
    (size base : ℕ) (bytes : List ℕ) → 0 < size → IsBytes bytes → base + length bytes ≤ 2 ^ 32
    → IsHexOf (sparse_text size base bytes) base (length bytes) bytes

-- a text says one row of bytes at most
abbrev pub OneReading : Type 0
OneReading =
    (text bytes others : List ℕ) (base size : ℕ) → IsHexOf text base size bytes
    → IsHexOf text base size others → bytes ≡ others

-- none that says bytes has a bad line
abbrev pub ReadingsAreGood : Type 0
ReadingsAreGood =
    (text bytes : List ℕ) (base size n : ℕ) → IsHexOf text base size bytes
    → IsBadHexLine text base size n → ⊥

-- a text has one first bad line at most
abbrev pub OneBadLine : Type 0
OneBadLine =
    (text : List ℕ) (base size n m : ℕ) → IsBadHexLine text base size n
    → IsBadHexLine text base size m → n ≡ m

-- every text says bytes or has a bad line
abbrev pub EachTextIsJudged : Type 0
EachTextIsJudged =
    (text : List ℕ) (base size : ℕ)
    → ((bytes : List ℕ) × IsHexOf text base size bytes) ⊎ ((n : ℕ) × IsBadHexLine text base size n)
