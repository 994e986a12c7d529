use Rattle.std.proofs.Common.{◌∙◌, ◌+◌, ◌≤◌, ap, arith, sym}
use Rattle.ee_flash.specs.Size.{slot_count}
use Rattle.ee_pages.proofs.Public.{length-slots}
use Rattle.ee_shell.specs.Part.Inspecting.{live_slots}
use Rattle.ee_shell.proofs.PartLemmas.Inspections.{parts_fit, room_fits}
use Rattle.ee_shell.proofs.part.inspecting.usage_of.Goals as goal

pub overflow_sub-result : goal.overflow_sub-result
overflow_sub-result g c =
    let device = g.F.Flash.device c.args.flash.now in
    let long = length-slots c.args.layout.now.side device c.requires.layout.live.formed in
    room_fits (live_slots device c.args.layout.now) c.args.layout.now.fill c.slots.result
    c.requires.layout.fill
    (long ∙ ap slot_count (sym c.shape.ensures) ∙ sym c.slots.ensures.value)

pub overflow_sub-result-2 : goal.overflow_sub-result-2
overflow_sub-result-2 g c =
    let fits : c.count_live-live.result + c.torn_slots-torn.result ≤ c.args.layout.now.fill =
    parts_fit (live_slots (g.F.Flash.device c.args.flash.now) c.args.layout.now)
    c.args.layout.now.fill c.count_live-live.result
    c.torn_slots-torn.result c.requires.layout.fill c.count_live-live.ensures
    c.torn_slots-torn.ensures in
    omega (arith, fits)

pub overflow_sub-result-3 : goal.overflow_sub-result-3
overflow_sub-result-3 g c =
    let fits : c.count_live-live.result + c.torn_slots-torn.result ≤ c.args.layout.now.fill =
    parts_fit (live_slots (g.F.Flash.device c.args.flash.now) c.args.layout.now)
    c.args.layout.now.fill c.count_live-live.result
    c.torn_slots-torn.result c.requires.layout.fill c.count_live-live.ensures
    c.torn_slots-torn.ensures in
    omega (arith, fits)
