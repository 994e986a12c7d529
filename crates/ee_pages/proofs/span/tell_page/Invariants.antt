use Rattle.std.proofs.Common.{◌≤◌, ◌*◌, ◌-◌, drop, take}
use Rattle.ee_pages.specs.Meaning.{latest_in}
use Rattle.ee_pages.specs.Sets.{set_of, slots_of}
use Rattle.ee_pages.specs.Spans.{AreSaidTo, TellsBefore}
use Rattle.ee_pages.proofs.span.tell_page.Given as goal

abbrev pub invariant-runs : goal.invariant-runs
invariant-runs g l =
    let device = g.F.Flash.device l.flash in
    let before = l.page * (device.size.words - 4) in
    let row = take l.used (drop before (slots_of (set_of l.fn.side device))) in
    record {
      within : l.left ≤ l.used;
      tells : TellsBefore (latest_in (drop l.left row)) l.fn.span l.span;
      said : AreSaidTo l.span l.said_to;
      few : l.said_to ≤ l.span.count;
    }

abbrev pub decreases-runs : goal.decreases-runs
decreases-runs g l = l.left
