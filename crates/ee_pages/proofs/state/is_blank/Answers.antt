use Rattle.std.proofs.Common.{ap, arith, sym, subst, nat_eq, ◌≡◌, ◌∙◌}
use Rattle.ee_flash.specs.Device.{page_at}
use Rattle.ee_flash.proofs.Public.{length-page_at}
use Rattle.ee_pages.specs.Page.{is_blank}
use Rattle.ee_pages.proofs.Passes.{blank_by}
use Rattle.ee_pages.proofs.state.is_blank.Goals as goal

pub returns : goal.returns
returns g c =
    let device = g.F.Flash.device c.args.flash.now in
    let long =
    length-page_at device c.args.page (g.met.F.Flash.formed c.args.flash.now) c.requires in
    let words = c.words.ensures.value ∙ ap (λ size. size.words) c.shape.ensures in
    let found = c.blank_to.ensures in
    subst (λ n. nat_eq c.blank_to.result n ≡ is_blank (page_at device c.args.page)) (sym words)
    (blank_by (page_at device c.args.page) device.size.words c.blank_to.result long found.within
    (λ j h. found.before j (omega arith) h) found.end)
