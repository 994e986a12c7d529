use Rattle.std.proofs.Common.{◌≡◌, ℕ, ◌<◌, false}
use Rattle.ee_flash.specs.Device.{word_at}
use Rattle.ee_shell.specs.Dumps.Places.{is_sought}
use Rattle.ee_shell.proofs.dumps.places.sought_in.Given as goal

-- no word so far is one
abbrev pub invariant-loop-at : goal.invariant-loop-at
invariant-loop-at g l =
    (k : ℕ) → k < l.at → is_sought l.sought k (word_at (g.F.Flash.device l.flash) l.page k) ≡ false
