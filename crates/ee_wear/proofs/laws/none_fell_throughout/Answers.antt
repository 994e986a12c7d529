use Rattle.std.proofs.Common.{arith}
use Rattle.ee_wear.proofs.laws.none_fell_throughout.Goals as goal

pub returns : goal.returns
returns c before between now first second = record {
  as_many = omega (arith, first.as_many, second.as_many);
  each = λ k below. omega (
    arith,
    first.each k (omega (arith, first.as_many, second.as_many)),
    second.each k (omega (arith, first.as_many, second.as_many)),
  );
}
