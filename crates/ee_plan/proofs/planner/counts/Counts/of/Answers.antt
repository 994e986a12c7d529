use Rattle.std.proofs.Common.{rules}
use Rattle.ee_plan.proofs.planner.counts.Counts.of.Goals as goal

pub invariant_of-result : goal.invariant_of-result
invariant_of-result g c = search rules
