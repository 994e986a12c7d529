use Rattle.std.proofs.Common.{rules}
use Rattle.ee_pages.proofs.BlankPages.{whole_erase_lowers_pending}
use Rattle.ee_pages.proofs.laws.whole_erase_lowers_pending.Goals as goal

pub returns : goal.returns
returns c = search (rules, whole_erase_lowers_pending)
