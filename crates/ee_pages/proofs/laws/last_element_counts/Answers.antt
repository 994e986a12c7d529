use Rattle.std.proofs.Common.{rules}
use Rattle.ee_pages.proofs.LastElements.{last_element_counts_lem}
use Rattle.ee_pages.proofs.laws.last_element_counts.Goals as goal

pub returns : goal.returns
returns c = search (rules, last_element_counts_lem)
