use Rattle.std.proofs.Common.{rules}
use Rattle.ee_pages.proofs.OtherSet.{kept_side_is_live}
use Rattle.ee_pages.proofs.laws.kept_side_is_live.Goals as goal

pub returns : goal.returns
returns c = search (rules, kept_side_is_live)
