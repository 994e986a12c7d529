use Rattle.std.proofs.Common.{arith}
use Rattle.std.proofs.lemmas.Grind.{common_steps}
use Rattle.ee_shell.proofs.dumps.intel_hex.record.row_of.Goals as goal

pub returns : goal.returns
returns c = grind (arith, common_steps)
