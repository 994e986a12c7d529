use Rattle.std.proofs.Common.{rules, ◌<◌, length, arith}
use Rattle.ee_pages.proofs.Public.{length-slots}
use Rattle.ee_shell.specs.Part.Inspecting.{live_slots}
use Rattle.ee_shell.proofs.PartLemmas.Inspections.{last_in_fill, slot_in_range, spoken_more}
use Rattle.ee_shell.proofs.part.inspecting.last_spoken.Goals as goal

pub slot_word-requires : goal.slot_word-requires
slot_word-requires g c =
    slot_in_range (g.F.Flash.device c.args.flash.now) c.args.layout.now c.requires c.slots.slot
    c.slots-test.true

pub slots-preserved : goal.slots-preserved
slots-preserved g c =
    let device = g.F.Flash.device c.args.flash.now in
    let slots = live_slots device c.args.layout.now in
    let long = length-slots c.args.layout.now.side device c.requires.live.formed in
    let within : c.slots.slot < length slots =
    omega (
      arith,
      long,
      slot_in_range device c.args.layout.now c.requires c.slots.slot c.slots-test.true,
    ) in
    spoken_more slots c.slots.slot c.slot_word.result c.slots.spoken.items
    c.note_address.new.spoken.items within c.slot_word.ensures
    c.note_address.ensures.long c.note_address.ensures.each c.slots.invariant

pub returns : goal.returns
returns g c = search (rules, last_in_fill)
