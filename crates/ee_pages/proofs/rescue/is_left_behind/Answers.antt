use Rattle.std.proofs.Common.{ap, arith, sym}
use Rattle.ee_pages.specs.Sets.{set_of}
use Rattle.ee_pages.proofs.RescueReads.{none_left}
use Rattle.ee_pages.proofs.Slots.{length-set_of}
use Rattle.ee_pages.proofs.rescue.is_left_behind.Goals as goal

pub returns : goal.returns
returns g c =
    let device = g.F.Flash.device c.args.flash.now in
    let formed = g.met.F.Flash.formed c.args.flash.now in
    sym
    (none_left (set_of c.args.side device)
    (λ k h. c.loop-page.invariant k
    (omega (
      arith,
      h,
      length-set_of c.args.side device formed,
      c.loop-page-test.false,
      c.pages-page-end.ensures.value,
      ap (λ size. size.pages) c.shape.ensures,
    ))))
