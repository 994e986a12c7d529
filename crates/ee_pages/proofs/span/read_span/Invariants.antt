use Rattle.std.proofs.Common.{◌≤◌, ◌*◌, ◌-◌, drop}
use Rattle.ee_pages.specs.Meaning.{latest_in}
use Rattle.ee_pages.specs.Sets.{set_of, slots_of}
use Rattle.ee_pages.specs.Spans.{AreSaidTo, TellsBefore}
use Rattle.ee_pages.proofs.span.read_span.Given as goal

abbrev pub invariant-loop-page : goal.invariant-loop-page
invariant-loop-page g l =
    let device = g.F.Flash.device l.flash in
    let slots = device.size.words - 4 in
    record {
      from : (l.page - 1) * slots ≤ l.left;
      to : l.left ≤ l.page * slots;
      tells : TellsBefore (latest_in (drop l.left (slots_of (set_of l.layout.side device))))
          l.initial.span l.span;
      said : AreSaidTo l.span l.said_to;
      few : l.said_to ≤ l.span.count;
    }
