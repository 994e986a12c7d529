use Rattle.std.proofs.Common.{rules}
use Rattle.ee_flash.proofs.Outcomes.{step_changes_one_page}
use Rattle.ee_flash.proofs.laws.step_changes_one_page.Goals as goal

pub returns : goal.returns
returns c = search (rules, step_changes_one_page)
