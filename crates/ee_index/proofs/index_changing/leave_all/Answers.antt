use Rattle.std.proofs.Common.{◌∙◌, arith}
use Rattle.ee_index.proofs.IndexedRooms.{left_more}
use Rattle.ee_index.proofs.index_changing.leave_all.Goals as goal

pub entries-preserved : goal.entries-preserved
entries-preserved g c = record {
  left = left_more _ _ _ c.entries-test.true c.put-item.is _ _ _ c.entries.invariant.left
      c.leave.ensures.left;
  fewer = omega (arith, c.entries.invariant.fewer, c.leave.ensures.fewer);
  same_room = c.leave.ensures.same_room ∙ c.entries.invariant.same_room;
}
