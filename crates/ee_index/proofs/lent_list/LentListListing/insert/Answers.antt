use Rattle.std.proofs.Common.{rules}
use Rattle.ee_index.proofs.InOrder.{none_found, ordered_put, slots_put}
use Rattle.ee_index.proofs.LentLists.{first_ordered, first_slots}
use Rattle.ee_index.proofs.lent_list.LentListListing.insert.Goals as goal

pub invariant_of-self : goal.invariant_of-self
invariant_of-self c = search (rules, first_ordered)

pub returns-in-Ok-clause-entered : goal.returns-in-Ok-clause-entered
returns-in-Ok-clause-entered c = search (rules, first_slots)

pub returns-then-self-clause-absent : goal.returns-then-self-clause-absent
returns-then-self-clause-absent c = none_found _ _ c.in-Err.place c.in-Err.ensures.absent

pub invariant_of-self-in-Err : goal.invariant_of-self-in-Err
invariant_of-self-in-Err c = search (rules, ordered_put)

pub returns-else-self-clause-entered : goal.returns-else-self-clause-entered
returns-else-self-clause-entered c = search (rules, slots_put)
