use Rattle.std.proofs.Common.{ap, arith, sym, ◌∙◌}
use Rattle.ee_codec.specs.Reading.{receive_of}
use Rattle.ee_pages.specs.Sets.{set_of}
use Rattle.ee_pages.proofs.RescueReads.{named_at, named_none}
use Rattle.ee_pages.proofs.Slots.{length-set_of}
use Rattle.ee_pages.proofs.rescue.named_generation.Goals as goal

pub returns-in-Some-clause-generation : goal.returns-in-Some-clause-generation
returns-in-Some-clause-generation g c =
    let device = g.F.Flash.device c.args.flash.now in
    sym
    (named_at (set_of c.args.side device) c.loop-page.page c.in-Some.generation
    c.loop-page.invariant
    (ap receive_of (sym c.set_word.ensures) ∙ sym c.read_receive.ensures.exact
    ∙ c.in-Some.is))

pub returns-clause-generation : goal.returns-clause-generation
returns-clause-generation g c =
    let device = g.F.Flash.device c.args.flash.now in
    let formed = g.met.F.Flash.formed c.args.flash.now in
    sym
    (named_none (set_of c.args.side device)
    (λ k h. c.loop-page.invariant k
    (omega (
      arith,
      h,
      length-set_of c.args.side device formed,
      c.loop-page-test.false,
      c.pages-page-end.ensures.value,
      ap (λ size. size.pages) c.shape.ensures,
    ))))
