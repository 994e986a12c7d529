use Rattle.std.proofs.Common.{rules}
use Rattle.ee_nor.specs.Formed.{pairs_are_formed}
use Rattle.ee_nor.proofs.laws.pairs_are_formed.Goals as goal

pub returns : goal.returns
returns c = search (rules, pairs_are_formed)
