use Rattle.std.proofs.Common.{◌≡◌, ◌<◌, ℕ, get_or}
use Rattle.ee_flash.specs.Device.{all_ones}
use Rattle.ee_pages.proofs.state.is_erased.Given as goal

abbrev pub invariant-loop-reading : goal.invariant-loop-reading
invariant-loop-reading l = record {
  yes : l.all ≡ all_ones → (k : ℕ) → k < l.reading-index → get_or l.readings k 0 ≡ all_ones;
  no : ((k : ℕ) → k < l.reading-index → get_or l.readings k 0 ≡ all_ones) → l.all ≡ all_ones;
}
