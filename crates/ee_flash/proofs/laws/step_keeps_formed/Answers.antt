use Rattle.std.proofs.Common.{rules}
use Rattle.ee_flash.proofs.Outcomes.{step_keeps_formed}
use Rattle.ee_flash.proofs.laws.step_keeps_formed.Goals as goal

pub returns : goal.returns
returns c = search (rules, step_keeps_formed)
