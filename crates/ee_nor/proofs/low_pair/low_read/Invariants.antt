use Rattle.ee_nor.specs.Nor.{numbers_at}
use Rattle.ee_nor.specs.Pairs.{AreHigh}
use Rattle.ee_nor.proofs.low_pair.low_read.Given as goal

abbrev pub invariant-words : goal.invariant-words
invariant-words g l = AreHigh (numbers_at (g.N.Nor.nor l.nor) l.page) l.from l.word
