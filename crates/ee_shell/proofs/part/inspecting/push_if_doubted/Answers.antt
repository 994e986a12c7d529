use Rattle.std.proofs.Common.{arith}
use Rattle.std.proofs.lemmas.Grind.{common_steps}
use Rattle.ee_shell.proofs.part.inspecting.push_if_doubted.Goals as goal

pub returns-then-spoken-eq0 : goal.returns-then-spoken-eq0
returns-then-spoken-eq0 g c = grind (arith, common_steps)

pub returns-in_ok-push_number_behind-in-Lines : goal.returns-in_ok-push_number_behind-in-Lines
returns-in_ok-push_number_behind-in-Lines g c = grind (arith, common_steps)

pub returns-in-Items : goal.returns-in-Items
returns-in-Items g c = grind (arith, common_steps)
