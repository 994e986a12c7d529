use Rattle.std.proofs.Common.{◌<◌, ◌-◌}
use Rattle.ee_pages.specs.Sets.{set_of, slots_of}
use Rattle.ee_core.specs.Puts.{puts_of}
use Rattle.ee_core.specs.Transfers.{IsOpenAt}
use Rattle.ee_core.proofs.Fillings.{FilledTo}
use Rattle.ee_core.proofs.copying.copy_others.Given as goal

abbrev pub invariant-live : goal.invariant-live
invariant-live g l =
    let old = g.F.Flash.device l.fn.flash in
    let now = g.F.Flash.device l.flash in
    record {
      at : IsOpenAt now l.layout l.place;
      filled : FilledTo old l.layout l.fn.place (puts_of l.puts) (g.C.LiveCursor.behind l.cursor)
          now l.place.slot;
      below : g.C.LiveCursor.behind l.cursor < 65535;
      over : g.C.LiveCursor.goes_over l.cursor (slots_of (set_of l.layout.side old));
    }

abbrev pub decreases-live : goal.decreases-live
decreases-live g l = 65535 - g.C.LiveCursor.behind l.cursor
