use Rattle.std.proofs.Common.{rules}
use Rattle.ee_flash.proofs.Outcomes.{step_leaves_pages}
use Rattle.ee_flash.proofs.laws.step_leaves_pages.Goals as goal

pub returns : goal.returns
returns c = search (rules, step_leaves_pages)
