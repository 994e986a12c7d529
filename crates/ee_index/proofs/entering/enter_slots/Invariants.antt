use Rattle.std.proofs.Common.{◌≡◌}
use Rattle.ee_pages.specs.Sets.{set_of, slots_of}
use Rattle.ee_index.specs.Index.{slot_for}
use Rattle.ee_index.proofs.Indexing.{IndexesTo}
use Rattle.ee_index.proofs.entering.enter_slots.Given as goal

abbrev pub invariant-loop-number : goal.invariant-loop-number
invariant-loop-number g l = record {
  indexes : IndexesTo (slots_of (set_of l.layout.side (g.F.Flash.device l.flash))) l.number
      (slot_for (g.L.Listing.list l.list));
  same_room : g.L.Listing.room l.list ≡ g.L.Listing.room l.fn.list;
}
