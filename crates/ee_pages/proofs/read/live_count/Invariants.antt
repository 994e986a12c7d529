use Rattle.std.proofs.Common.{◌≡◌, ◌≤◌, ◌-◌}
use Rattle.ee_pages.specs.Meaning.{live_to, meaning}
use Rattle.ee_pages.specs.LiveOrder.{above_of}
use Rattle.ee_pages.specs.Sets.{set_of, slots_of}
use Rattle.ee_pages.proofs.read.live_count.Given as goal

abbrev pub invariant-live : goal.invariant-live
invariant-live g l = record {
  few : l.count ≤ above_of l.after;
  count : l.count
      ≡ live_to (meaning (slots_of (set_of l.layout.side (g.F.Flash.device l.flash))))
      (above_of l.after);
}

abbrev pub decreases-live : goal.decreases-live
decreases-live g l = 65535 - above_of l.after
