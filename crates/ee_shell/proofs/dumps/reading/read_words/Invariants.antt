use Rattle.ee_shell.proofs.DumpsLemmas.Growing.{AreRead}
use Rattle.ee_shell.proofs.dumps.reading.read_words.Given as goal

-- the words so far are read
abbrev pub invariant-loop-bytes : goal.invariant-loop-bytes
invariant-loop-bytes g l = AreRead l.fn.dump l.bytes-index l.cells
