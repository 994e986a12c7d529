use Rattle.ee_nor.specs.Pairs.{AreHigh}
use Rattle.ee_nor.proofs.low_pair.low_in_window.Given as goal

abbrev pub invariant-words : goal.invariant-words
invariant-words l = AreHigh l.numbers 0 l.word
