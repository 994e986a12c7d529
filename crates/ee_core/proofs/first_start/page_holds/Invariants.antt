use Rattle.std.proofs.Common.{◌≢◌, ◌<◌, ◌≤◌, ℕ}
use Rattle.ee_flash.specs.Device.{word_at}
use Rattle.ee_flash.specs.declared.word.Word.TheVariants.{Held}
use Rattle.ee_core.proofs.first_start.page_holds.Given as goal

abbrev pub invariant-loop-at : goal.invariant-loop-at
invariant-loop-at g l =
    (j number : ℕ) → 4 ≤ j → j < l.at → word_at (g.F.Flash.device l.flash) l.page j ≢ Held number
