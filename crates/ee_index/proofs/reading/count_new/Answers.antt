use Rattle.std.proofs.Common.{arith, refl}
use Rattle.ee_index.proofs.IndexedRooms.{counted_more, worth}
use Rattle.ee_index.proofs.reading.count_new.Goals as goal

pub entries-preserved : goal.entries-preserved
entries-preserved g c = record {
  adds = counted_more _ _ _ c.entries-test.true c.put-item.is _ _ c.entries.invariant.adds
      _ c.has.ensures _ refl;
  few = omega (arith, c.entries.invariant.few, (worth c.has.result).1);
}
