use Rattle.ee_shell.proofs.DumpsLemmas.Pairing.{ArePairsRead}
use Rattle.ee_shell.proofs.dumps.reading.read_pairs.Given as goal

-- the words so far are read
abbrev pub invariant-loop-pair : goal.invariant-loop-pair
invariant-loop-pair g l = ArePairsRead l.pairs l.pair-index l.cells
