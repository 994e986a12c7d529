use Rattle.std.proofs.Common.{rules}
use Rattle.ee_index.proofs.InOrder.{absent_left, ordered_left, slots_left}
use Rattle.ee_index.proofs.index.IndexListing.remove.Goals as goal

pub invariant_of-self : goal.invariant_of-self
invariant_of-self g c = search (rules, ordered_left)

pub returns-in-Ok-clause-left : goal.returns-in-Ok-clause-left
returns-in-Ok-clause-left g c = search (rules, slots_left)

pub returns-in-Err-clause-left : goal.returns-in-Err-clause-left
returns-in-Err-clause-left g c =
    let gap = rw c.deref.ensures.value at c.in-Err.ensures.absent in
    rw (← c.self.view_is) (absent_left _ _ _ gap)
