use Rattle.std.proofs.Common.{◌≡◌, ◌≤◌, ℕ, length, take}
use Rattle.ee_pages.specs.Meaning.{changed_by}
use Rattle.ee_core.specs.Puts.{forgets_of}
use Rattle.ee_index.specs.Index.{slot_for}
use Rattle.ee_index.proofs.index_changing.leave_all.Given as goal

abbrev pub invariant-entries : goal.invariant-entries
invariant-entries g l = record {
  left : (address : ℕ)
      → slot_for (g.L.Listing.list l.list) address
      ≡ changed_by (forgets_of (take l.put-index l.puts))
      (slot_for (g.L.Listing.list l.fn.list)) address;
  fewer : length (g.L.Listing.list l.list) ≤ length (g.L.Listing.list l.fn.list);
  same_room : g.L.Listing.room l.list ≡ g.L.Listing.room l.fn.list;
}
