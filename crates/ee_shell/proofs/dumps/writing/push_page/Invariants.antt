use Rattle.ee_shell.proofs.DumpsLemmas.Growing.{IsPageFront}
use Rattle.ee_shell.proofs.dumps.writing.push_page.Given as goal

-- the words so far are written
abbrev pub invariant-loop-at : goal.invariant-loop-at
invariant-loop-at g l =
    IsPageFront l.form (g.F.Flash.device l.flash) l.page l.at l.fn.out.items l.out.items
