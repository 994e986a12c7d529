use Rattle.std.proofs.Common.{rules}
use Rattle.ee_pages.proofs.BlankPages.{erase_lowers_pending}
use Rattle.ee_pages.proofs.laws.erase_lowers_pending.Goals as goal

pub returns : goal.returns
returns c = search (rules, erase_lowers_pending)
