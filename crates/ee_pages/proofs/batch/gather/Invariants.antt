use Rattle.std.proofs.Common.{◌≡◌, ◌-◌, ◌*◌, [], take}
use Rattle.ee_pages.specs.Nearest.{with_each_named}
use Rattle.ee_pages.specs.Sets.{set_of, slots_of}
use Rattle.ee_pages.specs.declared.batch_items.TheConstants.{BATCH}
use Rattle.ee_pages.proofs.batch.gather.Given as goal

abbrev pub invariant-loop-page : goal.invariant-loop-page
invariant-loop-page g l =
    let device = g.F.Flash.device l.flash in
    l.nearest.named
    ≡ take BATCH
    (with_each_named l.above
    (take (l.page * (device.size.words - 4)) (slots_of (set_of l.side device))) [])
