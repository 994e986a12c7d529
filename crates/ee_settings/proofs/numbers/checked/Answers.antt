use Rattle.std.proofs.Common.{arith}
use Rattle.std.proofs.lemmas.Grind.{common_steps}
use Rattle.ee_settings.proofs.numbers.checked.Goals as goal

pub returns-then-default-min-clause-none : goal.returns-then-default-min-clause-none
returns-then-default-min-clause-none c = grind (arith, common_steps)

pub returns-clause-found : goal.returns-clause-found
returns-clause-found c = grind (arith, common_steps)

pub returns-clause-proper : goal.returns-clause-proper
returns-clause-proper c = grind (arith, common_steps)
