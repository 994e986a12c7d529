use Rattle.ee_core.proofs.PageWears.{each_page_wears_every_second_transfer_lem}
use Rattle.ee_core.proofs.laws.each_page_wears_every_second_transfer.Goals as goal

pub returns : goal.returns
returns c = search each_page_wears_every_second_transfer_lem
