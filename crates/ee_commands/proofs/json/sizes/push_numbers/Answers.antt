use Rattle.std.proofs.Common.{arith}
use Rattle.std.proofs.lemmas.Grind.{common_steps}
use Rattle.ee_commands.proofs.json.sizes.push_numbers.Goals as goal

pub returns : goal.returns
returns g c = rw (← c.erases_of.ensures, ← c.least_of.ensures) (grind (arith, common_steps))
