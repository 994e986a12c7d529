use Rattle.std.proofs.Common.{rules}
use Rattle.ee_index.proofs.IndexedLookups.{ready_for}
use Rattle.ee_index.proofs.slot_index.SlotIndexLookup.append.Goals as goal

pub append_indexed-requires-clause-ready : goal.append_indexed-requires-clause-ready
append_indexed-requires-clause-ready g c = search (rules, ready_for)
