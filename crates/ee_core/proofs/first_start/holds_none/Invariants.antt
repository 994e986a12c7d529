use Rattle.std.proofs.Common.{◌≢◌, ◌<◌, ◌≤◌, ℕ}
use Rattle.ee_flash.specs.Device.{word_at}
use Rattle.ee_flash.specs.declared.word.Word.TheVariants.{Held}
use Rattle.ee_core.proofs.first_start.holds_none.Given as goal

abbrev pub invariant-loop-page : goal.invariant-loop-page
invariant-loop-page g l =
    (k at number : ℕ) → k < l.page → 4 ≤ at → word_at (g.F.Flash.device l.flash) k at ≢ Held number
