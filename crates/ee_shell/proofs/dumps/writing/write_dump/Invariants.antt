use Rattle.ee_shell.proofs.DumpsLemmas.Growing.{IsDumpFront}
use Rattle.ee_shell.proofs.dumps.writing.write_dump.Given as goal

-- the pages so far are written
abbrev pub invariant-loop-page : goal.invariant-loop-page
invariant-loop-page g l = IsDumpFront l.form (g.F.Flash.device l.flash) l.page l.dump.items
