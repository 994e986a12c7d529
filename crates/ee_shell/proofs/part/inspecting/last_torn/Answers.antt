use Rattle.std.proofs.Common.{◌∙◌, rules, arith, refl}
use Rattle.ee_pages.specs.Page.{is_torn}
use Rattle.ee_pages.proofs.Public.{length-slots}
use Rattle.ee_shell.proofs.PartLemmas.Inspections.{last_in_fill, last_same, last_there, slot_in_range}
use Rattle.ee_shell.proofs.part.inspecting.last_torn.Goals as goal

pub slot_word-requires : goal.slot_word-requires
slot_word-requires g c =
    slot_in_range (g.F.Flash.device c.args.flash.now) c.args.layout.now c.requires c.slots.slot
    c.slots-test.true

pub slots-preserved : goal.slots-preserved
slots-preserved g c = search (rules, last_there, last_same, length-slots, slot_in_range)

pub returns : goal.returns
returns g c =
    c.slots.invariant
    ∙ last_in_fill (g.F.Flash.device c.args.flash.now) c.args.layout.now c.requires is_torn
    c.slots.slot refl (omega arith)
