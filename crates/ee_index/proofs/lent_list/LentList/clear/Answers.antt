use Rattle.std.proofs.Common.{rules}
use Rattle.ee_index.proofs.InOrder.{none_ordered}
use Rattle.ee_index.proofs.lent_list.LentList.clear.Goals as goal

pub invariant_of-self : goal.invariant_of-self
invariant_of-self c = search (rules, none_ordered)
