use Rattle.std.proofs.Common.{arith}
use Rattle.ee_wear.proofs.Steps.{no_wear_falls}
use Rattle.ee_wear.proofs.laws.no_wear_falls.Goals as goal

pub returns : goal.returns
returns c step old new taken =
    let none_fell = no_wear_falls step old new taken in
    record {
      as_many = omega (arith, none_fell.as_many);
      each = λ k below. omega (arith, none_fell.each k (omega (arith, none_fell.as_many)));
    }
