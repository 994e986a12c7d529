use Rattle.std.proofs.Common.{rules}
use Rattle.ee_pages.proofs.OtherSet.{other_set_keeps_side}
use Rattle.ee_pages.proofs.laws.other_set_keeps_side.Goals as goal

pub returns : goal.returns
returns c = search (rules, other_set_keeps_side)
