use Rattle.std.proofs.Common.{◌≡◌, take}
use Rattle.ee_pages.specs.Meaning.{changed_by}
use Rattle.ee_core.specs.Puts.{puts_of}
use Rattle.ee_index.specs.Index.{HasAddresses, IsShownSame, slot_for}
use Rattle.ee_index.proofs.index_changing.enter_hidden.Given as goal

abbrev pub invariant-entries : goal.invariant-entries
invariant-entries g l = record {
  shown : IsShownSame l.fill (g.L.Listing.list l.fn.list)
      (g.L.Listing.list l.list);
  there : HasAddresses (slot_for (g.L.Listing.list l.list))
      (changed_by (puts_of (take l.put-index l.puts)) (slot_for (g.L.Listing.list l.fn.list)));
  same_room : g.L.Listing.room l.list ≡ g.L.Listing.room l.fn.list;
}
