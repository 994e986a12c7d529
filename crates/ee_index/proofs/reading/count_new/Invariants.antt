use Rattle.std.proofs.Common.{◌≡◌, ◌+◌, ◌≤◌, take}
use Rattle.ee_pages.specs.Meaning.{Map, changed_by, live_in}
use Rattle.ee_core.specs.Puts.{AreApart, puts_of}
use Rattle.ee_index.specs.Index.{HasAddresses, slot_for}
use Rattle.ee_index.proofs.reading.count_new.Given as goal

abbrev pub invariant-entries : goal.invariant-entries
invariant-entries g l = record {
  adds : (map : Map)
      → HasAddresses (slot_for (g.L.Listing.list l.list)) map → AreApart (puts_of l.puts)
      → live_in (changed_by (puts_of (take l.put-index l.puts)) map) ≡ live_in map + l.count;
  few : l.count ≤ l.put-index;
}
