use Rattle.std.proofs.Common.{rules}
use Rattle.ee_index.proofs.InOrder.{none_ordered}
use Rattle.ee_index.proofs.index.Index.clear.Goals as goal

pub invariant_of-self : goal.invariant_of-self
invariant_of-self g c = search (rules, none_ordered)
