use Rattle.ee_core.proofs.ShownStates.{states_after_opening_lem}
use Rattle.ee_core.proofs.laws.states_after_opening.Goals as goal

pub returns : goal.returns
returns c = states_after_opening_lem
