use Rattle.ee_shell.proofs.DumpsLemmas.Codes.{AreCodesRead}
use Rattle.ee_shell.proofs.dumps.reading.read_codes.Given as goal

-- the words so far are read
abbrev pub invariant-loop-number : goal.invariant-loop-number
invariant-loop-number g l = AreCodesRead l.shape l.numbers l.number-index l.cells
