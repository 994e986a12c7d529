use Rattle.std.proofs.Common.{rules}
use Rattle.ee_index.proofs.InOrder.{none_ordered}
use Rattle.ee_index.proofs.lent_list.LentList.new.Goals as goal

pub invariant_of-result : goal.invariant_of-result
invariant_of-result c = search (rules, none_ordered)
