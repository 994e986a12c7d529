use Rattle.std.proofs.Common.{◌≤◌, ◌<◌, ◌%◌, ◌^◌, ℕ, length, get_or}
use Rattle.std.specs.Prelude.{◌≢◌}
use Rattle.ee_pages.proofs.read.ending_in.Given as goal

abbrev pub invariant-behind : goal.invariant-behind
invariant-behind l = record {
  within : l.left ≤ length l.readings;
  behind : (k : ℕ) → l.left ≤ k → k < length l.readings → get_or l.readings k 0 % 2 ^ 16 ≢ l.address;
}

abbrev pub decreases-behind : goal.decreases-behind
decreases-behind l = l.left
