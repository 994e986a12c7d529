use Rattle.std.proofs.Common.{◌≡◌, ◌<◌, ℕ, get_or}
use Rattle.ee_flash.specs.Device.{all_ones}
use Rattle.ee_flash.specs.declared.word.Word.TheVariants.{Erased, Held}
use Rattle.ee_flash.proofs.cells.first_all_ones.Given as goal

abbrev pub invariant-loop-at : goal.invariant-loop-at
invariant-loop-at l = (k : ℕ) → k < l.at → (value : ℕ) → get_or l.words k Erased ≡ Held value → value < all_ones
