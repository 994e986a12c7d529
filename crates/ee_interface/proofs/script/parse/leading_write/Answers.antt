use Rattle.std.proofs.Common.{arith}
use Rattle.std.proofs.lemmas.Grind.{common_steps}
use Rattle.ee_interface.proofs.script.parse.leading_write.Goals as goal

pub returns-in_err-value-clause-only : goal.returns-in_err-value-clause-only
returns-in_err-value-clause-only g c = grind (arith, common_steps)

pub returns-clause-only : goal.returns-clause-only
returns-clause-only g c = grind (arith, common_steps)
