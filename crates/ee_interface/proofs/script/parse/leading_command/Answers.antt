use Rattle.std.proofs.Common.{arith}
use Rattle.std.proofs.lemmas.Grind.{common_steps}
use Rattle.ee_interface.proofs.script.parse.leading_command.Goals as goal

pub returns-in-119-clause-only : goal.returns-in-119-clause-only
returns-in-119-clause-only c = grind (arith, common_steps)

pub returns-in-Some-clause-only : goal.returns-in-Some-clause-only
returns-in-Some-clause-only c = grind (arith, common_steps)

pub returns-in-None-clause-only : goal.returns-in-None-clause-only
returns-in-None-clause-only c = grind (arith, common_steps)

pub returns-in-Some-leading_address-clause-only : goal.returns-in-Some-leading_address-clause-only
returns-in-Some-leading_address-clause-only c = grind (arith, common_steps)

pub returns-in-None-leading_address-clause-only : goal.returns-in-None-leading_address-clause-only
returns-in-None-leading_address-clause-only c = grind (arith, common_steps)

pub returns-in-120-clause-only : goal.returns-in-120-clause-only
returns-in-120-clause-only c = grind (arith, common_steps)

pub returns-in-112-clause-only : goal.returns-in-112-clause-only
returns-in-112-clause-only c = grind (arith, common_steps)

pub returns-in-99-clause-only : goal.returns-in-99-clause-only
returns-in-99-clause-only c = grind (arith, common_steps)

pub returns-in_default-clause-only : goal.returns-in_default-clause-only
returns-in_default-clause-only c = grind (arith, common_steps)
