use Rattle.ee_shell.proofs.ByNameLemmas.Recorded.{NoneNamed}
use Rattle.ee_shell.proofs.by_name.recorded.find_record.Given as goal

-- none of the records so far has the name
abbrev pub invariant-loop-one : goal.invariant-loop-one
invariant-loop-one g l = NoneNamed l.records l.name l.one-index
