use Rattle.std.proofs.Common.{◌≡◌}
use Rattle.ee_nor.specs.Coded.Wiping.{ecc_wiped_below}
use Rattle.ee_nor.proofs.coded.wiping.wipe.Given as goal

abbrev pub invariant-pages : goal.invariant-pages
invariant-pages g l = g.N.EccNor.ecc l.nor ≡ ecc_wiped_below l.page (g.N.EccNor.ecc l.fn.nor)
