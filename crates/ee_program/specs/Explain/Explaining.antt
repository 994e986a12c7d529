-- Why a line of a script is bad, by its bytes.
use Rattle.std.specs.Prelude.{◌≡◌, ◌++◌, ◌∷◌, ◌&&◌, ◌||◌, ◌==◌, ℕ, nat_le, Bool, true, false, List, []}
use Rattle.std.specs.List.{list_any}
use Rattle.ee_interface.specs.Script.Command.{IsCommand, command_text}
use Rattle.ee_interface.specs.declared.script.command.Command.{Command}

-- the line is a command's
abbrev pub IsCommandLine : List ℕ → Type 0
IsCommandLine line = (command : Command) × IsCommand command × (line ≡ command_text command)

-- it is, and the text ends behind it with no line feed
abbrev pub IsUnended : List ℕ → Bool → Type 0
IsUnended line ended = (ended ≡ false) × IsCommandLine line

-- a command with a carriage return behind it, that isn't unended
abbrev pub IsWithReturn : List ℕ → Bool → Type 0
IsWithReturn line ended =
    (IsUnended line ended → ⊥)
    × ((front : List ℕ) × IsCommandLine front × (line ≡ front ++ 13 ∷ []))

-- behind a space, or the begin of the line, this has a space or nothing; or so it is further on
abbrev pub is_loose_behind : Bool → List ℕ → Bool
is_loose_behind behind_space [] = behind_space
is_loose_behind behind_space (byte ∷ bytes) =
    (behind_space && byte == 32) || is_loose_behind (byte == 32) bytes

-- the line is empty, begins or ends with a space, or has two of them side by side
abbrev pub has_loose_space : List ℕ → Bool
has_loose_space line = is_loose_behind true line

-- `A` to `Z`
abbrev pub is_upper : ℕ → Bool
is_upper byte = nat_le 65 byte && nat_le byte 90

abbrev pub has_capital : List ℕ → Bool
has_capital line = list_any is_upper line

-- the line has a space too many, and the causes before that don't apply
abbrev pub IsSpaced : List ℕ → Bool → Type 0
IsSpaced line ended =
    (IsUnended line ended → ⊥) × (IsWithReturn line ended → ⊥) × (has_loose_space line ≡ true)

-- it has a letter in upper case, and the causes before that don't apply
abbrev pub IsUpperCase : List ℕ → Bool → Type 0
IsUpperCase line ended =
    (IsUnended line ended → ⊥) × (IsWithReturn line ended → ⊥) × (has_loose_space line ≡ false)
    × (has_capital line ≡ true)
