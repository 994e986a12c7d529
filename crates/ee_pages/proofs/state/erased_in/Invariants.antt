use Rattle.std.proofs.Common.{◌≡◌, ℕ, ◌<◌, get_or}
use Rattle.ee_flash.specs.Device.{all_ones}
use Rattle.ee_pages.proofs.state.erased_in.Given as goal

abbrev pub invariant-loop-place : goal.invariant-loop-place
invariant-loop-place l = (k : ℕ) → k < l.place → get_or l.readings k 0 ≡ all_ones
