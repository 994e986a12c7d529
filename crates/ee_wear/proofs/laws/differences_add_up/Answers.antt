use Rattle.std.proofs.Common.{arith}
use Rattle.ee_wear.proofs.Counts.{sum-differences}
use Rattle.ee_wear.proofs.laws.differences_add_up.Goals as goal

pub returns : goal.returns
returns c before now none_fell = omega (arith, sum-differences before now none_fell)
