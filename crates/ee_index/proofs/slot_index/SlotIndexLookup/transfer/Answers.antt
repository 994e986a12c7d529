use Rattle.std.proofs.Common.{rules}
use Rattle.ee_index.proofs.IndexedLookups.{room_for}
use Rattle.ee_index.proofs.slot_index.SlotIndexLookup.transfer.Goals as goal

pub move_indexed-requires-clause-room : goal.move_indexed-requires-clause-room
move_indexed-requires-clause-room g c = search (rules, room_for)
