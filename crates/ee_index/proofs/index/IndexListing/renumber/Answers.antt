use Rattle.std.proofs.Common.{rules}
use Rattle.ee_index.proofs.Numbering.{ordered_numbered}
use Rattle.ee_index.proofs.index.IndexListing.renumber.Goals as goal

pub invariant_of-self : goal.invariant_of-self
invariant_of-self g c = search (rules, ordered_numbered)
