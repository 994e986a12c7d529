-- What the device needs its premises for: a counterexample without each.
use Rattle.std.proofs.Common.{◌≡◌, ◌≤◌, ℕ, Some, None, refl}
use Rattle.std.specs.Prelude.{bit_xor}
use Rattle.std.specs.Int.Bits.{and_self, and_zero_r, xor_self}
use Rattle.ee_flash.specs.Device.{all_ones}
use Rattle.ee_flash.specs.Numbers.{IsStoreNumber}
use Rattle.ee_flash.specs.Size.{IsWithinLimits, Size}
use Rattle.ee_flash.specs.declared.word.Word.TheVariants.{Held, Torn}
use Rattle.ee_nor.specs.Coded.Code.{HasOnes}
use Rattle.ee_nor.specs.Coded.Coded.{coded_number, coded_word, word_read}
use Rattle.ee_nor.proofs.CodedLemmas.Numbers.{reads_back}

module _ (size : Size) (number : ℕ) (limits : IsWithinLimits size) (fits : number ≤ all_ones)
    (store : IsStoreNumber number) where
  -- Of cells that are all zeros, into which no coded word was programmed, an erase that is cut can
  -- make any number.
  safe_needs_coded_words : HasOnes (coded_number size number) 0
      × (coded_word size (coded_number size number) ≡ Held number)
  safe_needs_coded_words = (and_zero_r (coded_number size number), reads_back size number limits fits store)

  -- Cells that hold a coded word and can't be read, since their correction was torn, may read as it
  -- once an erase was cut that turned none of them.
  erase_could_make_whole : HasOnes (coded_number size number) (coded_number size number)
      × (bit_xor (coded_number size number) (coded_number size number) ≡ 0) × (word_read size None ≡ Torn)
      × (word_read size (Some (coded_number size number)) ≡ Held number)
  erase_could_make_whole = (
    and_self (coded_number size number),
    xor_self (coded_number size number),
    refl,
    reads_back size number limits fits store,
  )
