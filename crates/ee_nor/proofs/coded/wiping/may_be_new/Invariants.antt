use Rattle.std.proofs.Common.{◌≡◌, ℕ, ◌<◌, ◌≤◌, drop, true}
use Rattle.ee_nor.specs.Coded.EccNor.{ecc_page}
use Rattle.ee_nor.specs.Coded.Wiping.{is_ecc_blank}
use Rattle.ee_nor.proofs.coded.wiping.may_be_new.Given as goal

abbrev pub invariant-pages : goal.invariant-pages
invariant-pages g l =
    (is_ecc_blank (drop 2 (ecc_page (g.N.EccNor.ecc l.nor) 0)) ≡ true)
    × ((page : ℕ) → 1 ≤ page → page < l.page
    → is_ecc_blank (ecc_page (g.N.EccNor.ecc l.nor) page) ≡ true)
