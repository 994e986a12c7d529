use Rattle.std.proofs.Common.{rules}
use Rattle.ee_pages.proofs.OtherPages.{step_keeps_other_pages}
use Rattle.ee_pages.proofs.laws.step_keeps_other_pages.Goals as goal

pub returns : goal.returns
returns c = search (rules, step_keeps_other_pages)
