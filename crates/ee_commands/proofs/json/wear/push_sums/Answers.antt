use Rattle.std.proofs.Common.{arith}
use Rattle.std.proofs.lemmas.Grind.{common_steps}
use Rattle.ee_commands.proofs.json.wear.push_sums.Goals as goal

pub returns : goal.returns
returns g c =
    rw (← c.total-sum.ensures, ← c.least-fewest.ensures.value, ← c.greatest-most.ensures.value)
    (grind (arith, common_steps))
