use Rattle.std.proofs.Common.{ℕ, ◌<◌, ◌≤◌}
use Rattle.ee_plan.specs.Planner.Places.{count_after}
use Rattle.ee_plan.proofs.planner.walking.first_over.Given as goal

-- the slots take the addresses that are live after each change so far
abbrev pub invariant-loop-number : goal.invariant-loop-number
invariant-loop-number g l = (n : ℕ) → n < l.number → count_after l.counts n ≤ l.slots
