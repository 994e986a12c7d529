use Rattle.std.proofs.Common.{arith}
use Rattle.std.proofs.lemmas.Grind.{common_steps}
use Rattle.ee_plan.proofs.planner.counting.count.Goals as goal

pub loop-change-preserved : goal.loop-change-preserved
loop-change-preserved g c = grind (arith, common_steps)

pub returns : goal.returns
returns g c = record { counts = grind (arith, common_steps); live = grind (arith, common_steps) }
