-- Laws of pairs: each is proved by the function of its name.
use Rattle.std.specs.Prelude.{◌≡◌, ◌<◌, ◌≤◌, ◌⊎◌, ℕ, ◌+◌, ◌*◌, ◌-◌, ◌^◌, List, [], ◌∷◌, length, slice_index}
use Rattle.std.specs.List.{All}
use Rattle.ee_flash.specs.Device.{IsFormed, all_ones}
use Rattle.ee_flash.specs.declared.word.Word.TheVariants.{Held}
use Rattle.ee_nor.specs.Nor.{HasBits, IsNorFormed, IsNorNumber, NorDevice}
use Rattle.ee_nor.specs.Pairs.{complement, paired_device, pair_word}

-- A word that was cut on its way to a value reads as that value or as none: its first number has
-- every bit of the value, its second every bit of the complement.
abbrev pub TornIsTold : Type 0
TornIsTold =
    (value number check held : ℕ) → value < all_ones → HasBits number value
    → HasBits check (complement value)
    → pair_word number check ≡ Held held → held ≡ value

-- An erase that is cut makes no number: where it leaves one, that stood there. It needs that the
-- two numbers did not sum to less than all ones, and that stays so.
abbrev pub EraseMakesNoNumber : Type 0
EraseMakesNoNumber =
    (number check left left_check : ℕ) → IsNorNumber left → all_ones ≤ number + check
    → HasBits left number → HasBits left_check check
    → (all_ones ≤ left + left_check)
    × ((held : ℕ) → pair_word left left_check ≡ Held held → pair_word number check ≡ Held held)

-- the number of these parts, each of so many bits, the least first
abbrev pub number_of_parts : ℕ → List ℕ → ℕ
number_of_parts bits [] = 0
number_of_parts bits (part ∷ parts) = number_of_parts bits parts * 2 ^ bits + part

abbrev pub IsPart : ℕ → ℕ → Type 0
IsPart bits part = part < 2 ^ bits

-- a part that was programmed, or cut in it, has every bit of the one asked for; one that was
-- not has all its bits
abbrev pub MayPartBe : ℕ → ℕ → ℕ → Type 0
MayPartBe bits asked left = HasBits left asked ⊎ (left ≡ 2 ^ bits - 1)

-- A number that is programmed by parts, in any order and cut in any of them, is left as a program
-- that is cut may leave it.
abbrev pub PartsAreAProgram : Type 0
PartsAreAProgram =
    (bits : ℕ) (asked left : List ℕ) → length left ≡ length asked → All (IsPart bits) asked
    → All (IsPart bits) left
    → ((part : ℕ) → MayPartBe bits (slice_index asked part) (slice_index left part))
    → HasBits (number_of_parts bits left) (number_of_parts bits asked)

-- The words of a formed device of numbers are a formed device.
abbrev pub PairsAreFormed : Type 0
PairsAreFormed = (nor : NorDevice) → IsNorFormed nor → IsFormed (paired_device nor)
