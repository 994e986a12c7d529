use Rattle.ee_index.proofs.Numbering.{IsNumberedTo}
use Rattle.ee_index.proofs.entries.renumber.Given as goal

abbrev pub invariant-entries : goal.invariant-entries
invariant-entries l = IsNumberedTo l.puts l.fn.entries l.entries l.place l.number
