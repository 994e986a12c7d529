-- Why the number of a word shows as it is what a reading has to show.
use Rattle.std.specs.Prelude.{◌≡◌, ◌%◌, ◌^◌, ℕ}
use Rattle.std.proofs.Common.{ap, arith, refl, sym, ◌∙◌}
use Rattle.ee_flash.specs.Device.{IsBelowAllOnes, all_ones}
use Rattle.ee_flash.specs.Runs.{IsOwnReading, IsShownBy, number_of}
use Rattle.ee_flash.specs.declared.word.Word.{Word}
use Rattle.ee_flash.specs.declared.word.Word.TheVariants.{Erased, Held, Torn}

only_erased : (word : Word) → number_of word ≡ all_ones → IsBelowAllOnes word → word ≡ Erased
only_erased Erased is below = refl
only_erased Torn is below = absurd (omega (arith, is))
only_erased (Held number) is below = absurd (omega (arith, is, below number refl))

erased_number : (word : Word) → word ≡ Erased → number_of word ≡ all_ones
erased_number Erased is = refl
erased_number Torn is = absurd (cc is)
erased_number (Held number) is = absurd (cc is)

pub own_shown : (word : Word) (reading : ℕ) → IsOwnReading word reading → IsShownBy word reading
own_shown word reading is = record {
  erased = λ erased. is ∙ erased_number word erased;
  only_erased = λ ones below. only_erased word (sym is ∙ ones) below;
  address = λ slot. ap (λ n. n % 2 ^ 16) is;
}
