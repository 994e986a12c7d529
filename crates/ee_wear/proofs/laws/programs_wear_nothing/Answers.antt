use Rattle.std.proofs.Common.{arith}
use Rattle.ee_wear.proofs.Steps.{programs_wear_nothing}
use Rattle.ee_wear.proofs.laws.programs_wear_nothing.Goals as goal

pub returns : goal.returns
returns c page at value old new taken =
    omega (arith, programs_wear_nothing page at value old new taken)
