use Rattle.std.proofs.Common.{rules}
use Rattle.ee_index.proofs.InOrder.{none_found, ordered_put, ordered_set, slots_put, slots_set}
use Rattle.ee_index.proofs.index.IndexListing.insert.Goals as goal

pub invariant_of-self : goal.invariant_of-self
invariant_of-self g c = search (rules, ordered_set)

pub invariant_of-self-in-Err : goal.invariant_of-self-in-Err
invariant_of-self-in-Err g c = search (rules, ordered_put)

pub returns-in_default-clause-absent : goal.returns-in_default-clause-absent
returns-in_default-clause-absent g c =
    let gap = rw c.deref.ensures.value at c.in-Err.ensures.absent in
    rw (← c.self.view_is) (none_found _ _ c.in-Err.place gap)

pub returns-in-Ok-clause-entered : goal.returns-in-Ok-clause-entered
returns-in-Ok-clause-entered g c = search (rules, slots_set)

pub returns-in-Ok-insert-clause-entered : goal.returns-in-Ok-insert-clause-entered
returns-in-Ok-insert-clause-entered g c = search (rules, slots_put)
