use Rattle.std.proofs.Common.{rules}
use Rattle.ee_index.proofs.InOrder.{absent_left, ordered_left, slots_left}
use Rattle.ee_index.proofs.lent_list.LentListListing.remove.Goals as goal

pub invariant_of-self : goal.invariant_of-self
invariant_of-self c = search (rules, ordered_left)

pub returns-in-Ok-clause-left : goal.returns-in-Ok-clause-left
returns-in-Ok-clause-left c = search (rules, slots_left)

pub returns-in_default-clause-left : goal.returns-in_default-clause-left
returns-in_default-clause-left c = absent_left _ _ _ c.in_default.ensures.absent
