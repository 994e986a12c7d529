use Rattle.ee_core.proofs.RescueCuts.{held_through_cuts}
use Rattle.ee_core.proofs.laws.held_through_cuts.Goals as goal

pub returns : goal.returns
returns c = held_through_cuts
