use Rattle.ee_core.proofs.StepCounts.{each_call_few}
use Rattle.ee_core.proofs.laws.each_call_is_short.Goals as goal

pub returns : goal.returns
returns c = each_call_few
