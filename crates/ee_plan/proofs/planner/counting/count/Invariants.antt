use Rattle.std.proofs.Common.{◌≡◌, ◌++◌, drop}
use Rattle.ee_check.specs.Live.{live_after}
use Rattle.ee_plan.specs.Planner.Places.{counts_before}
use Rattle.ee_plan.proofs.planner.counting.count.Given as goal

-- the counts so far and those of what is left are all, and what is left leads to the same addresses
abbrev pub invariant-loop-change : goal.invariant-loop-change
invariant-loop-change g l = record {
  so_far : l.counts.items ++ counts_before l.live (drop l.change-index l.trace)
      ≡ counts_before l.initial.live l.trace;
  leads : live_after l.live (drop l.change-index l.trace) ≡ live_after l.initial.live l.trace;
}
