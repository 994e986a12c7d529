-- What the check is for: of the word that a number is written as, and of the number that a reading is.
use Rattle.std.specs.Prelude.{◌≡◌, ◌≢◌, ◌≤◌, ℕ, Option, Some}
use Rattle.ee_flash.specs.Device.{all_ones}
use Rattle.ee_flash.specs.Numbers.{IsStoreNumber}
use Rattle.ee_flash.specs.Size.{IsWithinLimits, Size}
use Rattle.ee_flash.specs.declared.word.Word.{Word}
use Rattle.ee_flash.specs.declared.word.Word.TheVariants.{Held}
use Rattle.ee_nor.specs.Coded.Code.{HasOnes, IsPayload, MayReadAs, codeword, ones_lost}
use Rattle.ee_nor.specs.Coded.Coded.{coded_number}

-- The word of a payload and that of any other have two ones or more each that the other lacks.
abbrev pub IsFarFromOthers : ℕ → ℕ → Type 0
IsFarFromOthers payload word =
    (other : ℕ) → IsPayload other → other ≢ payload
    → (2 ≤ ones_lost word (codeword other)) × (2 ≤ ones_lost (codeword other) word)

-- A flash reads so, and on a device of this size the reading is this word.
pub record IsTold (size : Size) (reading : Option ℕ) (word : Word) : Type 0 where
  -- The word of a number that a store writes reads as that number.
  pub reads_as_written : (number : ℕ) → IsWithinLimits size → IsStoreNumber number
      → number ≤ all_ones → reading ≡ Some (coded_number size number) → word ≡ Held number
  -- Where a word was cut on its way to a coded one, so that it has every one of that, and reads with
  -- one bit turned at most, it is held as the number of that word or as none.
  pub torn_is_told : (payload left read number : ℕ) → IsPayload payload → left ≤ all_ones
      → HasOnes left (codeword payload) → MayReadAs left read → read ≤ all_ones
      → reading ≡ Some read → word ≡ Held number → coded_number size number ≡ codeword payload
  -- So is one that was cut so, and then in an erase, which adds ones.
  pub erase_makes_no_number : (payload before left read number : ℕ) → IsPayload payload
      → before ≤ all_ones → left ≤ all_ones → HasOnes before (codeword payload)
      → HasOnes left before → MayReadAs left read → read ≤ all_ones → reading ≡ Some read
      → word ≡ Held number → coded_number size number ≡ codeword payload
  -- What is erased is held as none, with one bit turned too.
  pub erased_is_none : (read number : ℕ) → MayReadAs all_ones read → read ≤ all_ones
      → reading ≡ Some read → word ≢ Held number
