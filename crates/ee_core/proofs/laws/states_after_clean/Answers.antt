use Rattle.ee_core.proofs.ShownStates.{states_after_clean_lem}
use Rattle.ee_core.proofs.laws.states_after_clean.Goals as goal

pub returns : goal.returns
returns c = states_after_clean_lem
