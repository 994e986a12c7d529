-- Words of digits.
use Rattle.std.proofs.Common.{◌≡◌, ◌≤◌, ◌∷◌, [], ℕ, List, length, arith, refl}
use Rattle.std.specs.List.{list_all}
use Rattle.ee_interface.specs.CommandLine.Operands.{are_digits, is_decimal_digit}

-- of a word that isn't empty each byte decides
pub digits_of_some : (word : List ℕ) → 1 ≤ length word
    → are_digits word ≡ list_all is_decimal_digit word
digits_of_some [] some = absurd (omega (arith, some))
digits_of_some (byte ∷ bytes) some = refl
