use Rattle.ee_core.proofs.Words.{arith, common_steps}
use Rattle.ee_core.proofs.puts.has_put.Goals as goal

pub entries-preserved : goal.entries-preserved
entries-preserved c = grind (arith, common_steps)
