use Rattle.std.proofs.Common.{rules}
use Rattle.ee_pages.proofs.FillingSteps.{stages_change}
use Rattle.ee_pages.proofs.laws.stages_change.Goals as goal

pub returns : goal.returns
returns c = search (rules, stages_change)
