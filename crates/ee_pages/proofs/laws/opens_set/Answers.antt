use Rattle.std.proofs.Common.{rules}
use Rattle.ee_pages.proofs.FillingSteps.{opens_set}
use Rattle.ee_pages.proofs.laws.opens_set.Goals as goal

pub returns : goal.returns
returns c = search (rules, opens_set)
