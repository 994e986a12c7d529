use Rattle.std.proofs.Common.{sym, subst, ◌<◌, ◌∙◌, length}
use Rattle.ee_pages.specs.Sets.{set_of}
use Rattle.ee_pages.proofs.Slots.{get_or-slots_of, length-set_of, pages-set_of}
use Rattle.ee_pages.proofs.side.page_slot.Goals as goal

pub returns : goal.returns
returns g c =
    let device = g.F.Flash.device c.args.flash.now in
    let formed = g.met.F.Flash.formed c.args.flash.now in
    let in_range : c.args.page < length (set_of c.args.side device) =
    subst (λ n. c.args.page < n) (sym (length-set_of c.args.side device formed))
    c.requires.page_in_range in
    let at =
    get_or-slots_of device.size.words (set_of c.args.side device) c.args.page c.args.slot
    (pages-set_of c.args.side device formed) in_range c.requires.slot_in_range in
    c.set_word.ensures ∙ sym at
