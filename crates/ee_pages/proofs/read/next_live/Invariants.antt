use Rattle.std.proofs.Common.{◌≡◌, ◌≤◌, ◌<◌, ◌-◌, ℕ, None}
use Rattle.ee_pages.specs.Meaning.{meaning}
use Rattle.ee_pages.specs.LiveOrder.{above_of}
use Rattle.ee_pages.specs.Sets.{set_of, slots_of}
use Rattle.ee_pages.proofs.read.next_live.Given as goal

abbrev pub invariant-batches : goal.invariant-batches
invariant-batches g l = record {
  behind : above_of l.fn.after ≤ above_of l.behind;
  none : (address : ℕ) → above_of l.fn.after < address → address ≤ above_of l.behind
      → meaning (slots_of (set_of l.layout.side (g.F.Flash.device l.flash))) address ≡ None;
}

abbrev pub decreases-batches : goal.decreases-batches
decreases-batches g l = 65535 - above_of l.behind
