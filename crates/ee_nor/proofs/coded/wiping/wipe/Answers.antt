use Rattle.std.proofs.Common.{rules, arith, ap, sym}
use Rattle.ee_flash.specs.Size.{Size}
use Rattle.ee_nor.proofs.CodedLemmas.Wipes.{wipe_left, wiped_blank, wiped_erased, wiped_none, wiped_size}
use Rattle.ee_nor.proofs.coded.wiping.wipe.Goals.{then-not-is_blank_from+in_ok-erase, else-not-is_blank_from}
use Rattle.ee_nor.proofs.coded.wiping.wipe.Goals as goal

pub pages-init : goal.pages-init
pages-init g c = sym (wiped_none _)

pub is_blank_from-requires : goal.is_blank_from-requires
is_blank_from-requires g c = search (rules, wiped_size)

pub returns-in_err-erase-clause-cut : goal.returns-in_err-erase-clause-cut
returns-in_err-erase-clause-cut g c =
    let count = ap (λ (size : Size). size.pages) c.shape.ensures in
    let left =
    wipe_left c.pages.page (g.N.EccNor.ecc c.args.nor.now) (g.N.EccNor.ecc c.pages.nor)
    (g.N.EccNor.ecc c.erase.new.self) c.requires c.pages.invariant
    (omega (arith, count, c.pages-page-end.ensures.value, c.pages-test.true)) (search rules)
    c.in_err-erase.ensures.cut in
    search rules

pub pages-preserved : goal.pages-preserved
pages-preserved g c =
    let old = g.N.EccNor.ecc c.args.nor.now in
    let mid = g.N.EccNor.ecc c.pages.nor in
    elim c.if-not-is_blank_from.branch [
      | then-not-is_blank_from+in_ok-erase w ↦ wiped_erased c.pages.page old mid
          (g.N.EccNor.ecc c.if-not-is_blank_from.nor) c.pages.invariant (search rules) (search rules)
      | else-not-is_blank_from w ↦ rw w.nor-is
          (wiped_blank c.pages.page old mid c.pages.invariant (search rules))
    ]
