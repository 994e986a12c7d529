use Rattle.std.proofs.Common.{arith}
use Rattle.std.proofs.lemmas.Grind.{common_steps}
use Rattle.ee_shell.proofs.dumps.word.push_number.Goals as goal

pub returns-in-Pairs : goal.returns-in-Pairs
returns-in-Pairs g c = grind (arith, common_steps)
