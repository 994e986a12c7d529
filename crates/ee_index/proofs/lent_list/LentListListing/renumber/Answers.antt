use Rattle.std.proofs.Common.{rules}
use Rattle.ee_index.proofs.LentLists.{first_numbered}
use Rattle.ee_index.proofs.lent_list.LentListListing.renumber.Goals as goal

pub invariant_of-self : goal.invariant_of-self
invariant_of-self c = search (rules, first_numbered)
