use Rattle.std.proofs.Common.{rules}
use Rattle.std.proofs.lemmas.Grind.{get_or_default_zero}
use Rattle.std.proofs.Math.Nat.{mod-lt}
use Rattle.ee_plan.proofs.PlannerLemmas.Counted.{stays_flat}
use Rattle.ee_plan.proofs.planner.counts.Counts.flat.Goals as goal

pub returns-else-number-length : goal.returns-else-number-length
returns-else-number-length g c = search (rules, mod-lt, get_or_default_zero, stays_flat)
