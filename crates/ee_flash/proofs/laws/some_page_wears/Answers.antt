use Rattle.std.proofs.Common.{rules}
use Rattle.ee_flash.proofs.Endurance.{some_page_wears_lem}
use Rattle.ee_flash.proofs.laws.some_page_wears.Goals as goal

pub returns : goal.returns
returns c = search (rules, some_page_wears_lem)
