use Rattle.std.proofs.Common.{rules}
use Rattle.ee_pages.proofs.FillingSteps.{opens_page}
use Rattle.ee_pages.proofs.laws.opens_page.Goals as goal

pub returns : goal.returns
returns c = search (rules, opens_page)
