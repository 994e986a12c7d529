use Rattle.std.proofs.Common.{◌<◌, ◌/◌, ◌-◌, ◌∙◌, ap, rules, subst, sym}
use Rattle.ee_pages.proofs.Slots.{page_in_range, split_by}
use Rattle.ee_pages.proofs.side.set_slot.Goals as goal

pub returns : goal.returns
returns g c = search (rules, split_by)

pub page_slot-requires-clause-page_in_range : goal.page_slot-requires-clause-page_in_range
page_slot-requires-clause-page_in_range g c =
    let device = g.F.Flash.device c.args.flash.now in
    subst (λ n. c.args.slot / (n - 4) < device.size.pages)
    (sym (c.words-slots.ensures.value ∙ ap (λ size. size.words) c.shape.ensures))
    (page_in_range device c.args.slot c.requires)
