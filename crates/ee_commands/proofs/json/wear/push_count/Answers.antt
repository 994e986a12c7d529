use Rattle.std.proofs.Common.{arith}
use Rattle.std.proofs.lemmas.Grind.{common_steps}
use Rattle.ee_commands.proofs.json.wear.push_count.Goals as goal

pub returns : goal.returns
returns g c = grind (arith, common_steps)
