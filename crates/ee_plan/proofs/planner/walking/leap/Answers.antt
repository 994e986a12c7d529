use Rattle.std.proofs.Common.{arith, rules}
use Rattle.std.proofs.lemmas.Grind.{common_steps}
use Rattle.ee_plan.proofs.PlannerLemmas.Counted.{comes_round}
use Rattle.ee_plan.proofs.PlannerLemmas.Stations.{begun, leapt}
use Rattle.ee_plan.proofs.planner.walking.leap.Goals as goal

pub leaping-init : goal.leaping-init
leaping-init g c = search (rules, begun)

pub returns-then-walk-mark-eq0 : goal.returns-then-walk-mark-eq0
returns-then-walk-mark-eq0 g c = grind (arith, common_steps, leapt, comes_round)
