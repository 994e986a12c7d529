use Rattle.std.proofs.Common.{◌≡◌, ◌<◌, ◌≤◌, ℕ, get_or}
use Rattle.ee_fakes.specs.Fate.{word_of_fate}
use Rattle.ee_flash.specs.declared.word.Word.TheVariants.{Erased}
use Rattle.ee_fakes.proofs.fate.erase_words.Given as goal

abbrev pub invariant-loop-at : goal.invariant-loop-at
invariant-loop-at l =
    ((k : ℕ) → k < l.at
    → get_or l.words k Erased
    ≡ word_of_fate (get_or l.list k l.rest) (get_or l.fn.words k Erased) Erased)
    × ((k : ℕ) → l.at ≤ k → get_or l.words k Erased ≡ get_or l.fn.words k Erased)
