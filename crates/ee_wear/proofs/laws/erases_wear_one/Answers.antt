use Rattle.std.proofs.Common.{arith}
use Rattle.ee_wear.proofs.Steps.{erases_wear_one}
use Rattle.ee_wear.proofs.laws.erases_wear_one.Goals as goal

pub returns : goal.returns
returns c page old new taken on below =
    omega (arith, erases_wear_one page old new taken on (omega (arith, below)))
