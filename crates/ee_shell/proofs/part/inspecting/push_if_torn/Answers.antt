use Rattle.std.proofs.Common.{arith}
use Rattle.std.proofs.lemmas.Grind.{common_steps}
use Rattle.ee_shell.proofs.part.inspecting.push_if_torn.Goals as goal

pub returns-then-not-matches : goal.returns-then-not-matches
returns-then-not-matches g c = grind (arith, common_steps)

pub returns-in-Lines : goal.returns-in-Lines
returns-in-Lines g c = grind (arith, common_steps)

pub returns-in-Items : goal.returns-in-Items
returns-in-Items g c = grind (arith, common_steps)
