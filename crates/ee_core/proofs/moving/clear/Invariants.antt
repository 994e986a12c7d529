use Rattle.ee_core.proofs.ClearedSets.{ClearedTo}
use Rattle.ee_core.proofs.moving.clear.Given as goal

abbrev pub invariant-pages : goal.invariant-pages
invariant-pages g l =
    ClearedTo (g.F.Flash.device l.fn.flash) (g.F.Flash.device l.flash) l.layout.side l.first l.page
