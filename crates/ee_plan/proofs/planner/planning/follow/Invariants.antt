use Rattle.std.proofs.Common.{◌≡◌}
use Rattle.ee_plan.specs.Planner.LateStore.{HasMade}
use Rattle.ee_plan.proofs.planner.planning.follow.Given as goal

-- so many changes are made, and the store stands as it does after them
abbrev pub invariant-loop-change : goal.invariant-loop-change
invariant-loop-change g l = record {
  counted : l.number ≡ l.change-index;
  so_far : HasMade l.fn.start l.fn.trace l.change-index l.store;
}
