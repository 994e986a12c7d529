use Rattle.std.proofs.Common.{◌≡◌, ◌+◌, ◌-◌, ◌*◌, take}
use Rattle.ee_pages.specs.Sets.{set_of, slots_of, torn_of}
use Rattle.ee_pages.proofs.read.torn_through.Given as goal

abbrev pub invariant-loop-slot : goal.invariant-loop-slot
invariant-loop-slot g l =
    let device = g.F.Flash.device l.flash in
    l.torn
    ≡ torn_of
    (take (l.page * (device.size.words - 4) + l.slot) (slots_of (set_of l.side device)))
