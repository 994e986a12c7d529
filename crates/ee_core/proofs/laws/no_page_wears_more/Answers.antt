use Rattle.ee_core.proofs.PageWears.{no_page_wears_more_lem}
use Rattle.ee_core.proofs.laws.no_page_wears_more.Goals as goal

pub returns : goal.returns
returns c = search no_page_wears_more_lem
