use Rattle.ee_core.proofs.StepCounts.{formats_and_rescues_few}
use Rattle.ee_core.proofs.laws.formats_and_rescues_are_short.Goals as goal

pub returns : goal.returns
returns c = formats_and_rescues_few
