use Rattle.std.proofs.Common.{◌≡◌}
use Rattle.ee_nor.specs.Wiping.{wiped_below}
use Rattle.ee_nor.proofs.wiping.wipe.Given as goal

abbrev pub invariant-pages : goal.invariant-pages
invariant-pages g l = g.N.Nor.nor l.nor ≡ wiped_below l.page (g.N.Nor.nor l.fn.nor)
