use Rattle.std.proofs.Common.{rules}
use Rattle.ee_flash.proofs.Outcomes.{step_ends}
use Rattle.ee_flash.proofs.laws.step_ends.Goals as goal

pub returns : goal.returns
returns c = search (rules, step_ends)
