use Rattle.ee_core.proofs.CutMarks.{MarkedTo}
use Rattle.ee_core.proofs.marking.mark_old_set.Given as goal

abbrev pub invariant-pages : goal.invariant-pages
invariant-pages g l =
    MarkedTo (g.F.Flash.device l.fn.flash) (g.F.Flash.device l.flash) l.layout.side
    l.layout.generation l.first l.page
