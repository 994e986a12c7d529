use Rattle.std.proofs.Common.{rules}
use Rattle.ee_nor.proofs.pairs.Pairs.of.Goals as goal

pub invariant_of-result : goal.invariant_of-result
invariant_of-result g c = search rules fits 100 parts 0
