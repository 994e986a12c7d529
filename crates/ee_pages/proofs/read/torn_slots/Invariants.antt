use Rattle.std.proofs.Common.{◌≡◌, ◌-◌, ◌*◌, take}
use Rattle.ee_pages.specs.Sets.{set_of, slots_of, torn_of}
use Rattle.ee_pages.proofs.read.torn_slots.Given as goal

abbrev pub invariant-loop-page : goal.invariant-loop-page
invariant-loop-page g l =
    let device = g.F.Flash.device l.flash in
    l.torn
    ≡ torn_of (take (l.page * (device.size.words - 4)) (slots_of (set_of l.layout.side device)))
