-- Numbers at the front of a text.
use Rattle.std.specs.Prelude.{◌≡◌, ◌<◌, ◌≤◌, ◌⊎◌, ℕ, List, [], ◌∷◌, length, take}
use Rattle.std.specs.Str.Parse.{AllDigits, digits_value}

-- no digit stands first in the text, which may have nothing in it
abbrev pub StartsWithNoDigit : List ℕ → Type 0
StartsWithNoDigit [] = Unit {0}
StartsWithNoDigit (byte ∷ text) = (byte < 48) ⊎ (57 < byte)

-- so many bytes at the front of the text are digits, and this is what they are worth
pub record IsWorth (text : List ℕ) (count value : ℕ) : Type 0 where
  pub within : count ≤ length text
  pub digits : AllDigits 10 (take count text)
  pub value_is : value ≡ digits_value 10 (take count text)
