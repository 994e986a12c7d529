use Rattle.std.proofs.Common.{◌≡◌, [], true, ap, arith}
use Rattle.std.proofs.lemmas.List.Elements.{All-from_get_or}
use Rattle.ee_pages.specs.Page.{is_blank}
use Rattle.ee_pages.proofs.find.is_unformatted.Goals as goal

pub returns : goal.returns
returns g c =
    let device = g.F.Flash.device c.args.flash.now in
    let long = (g.met.F.Flash.formed c.args.flash.now).image_length in
    All-from_get_or (λ page. is_blank page ≡ true) device.image []
    (λ k h. c.loop-page.invariant k
    (omega (
      arith,
      h,
      long,
      c.loop-page-test.false,
      c.pages-page-end.ensures.value,
      ap (λ size. size.pages) c.shape.ensures,
    )))
