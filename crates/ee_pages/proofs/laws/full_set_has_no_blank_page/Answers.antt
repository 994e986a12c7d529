use Rattle.std.proofs.Common.{rules}
use Rattle.ee_pages.proofs.BlankPages.{full_set_has_no_blank_page}
use Rattle.ee_pages.proofs.laws.full_set_has_no_blank_page.Goals as goal

pub returns : goal.returns
returns c = search (rules, full_set_has_no_blank_page)
