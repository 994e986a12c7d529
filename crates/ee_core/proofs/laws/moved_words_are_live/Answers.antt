use Rattle.ee_core.proofs.ShownStates.{moved_words_are_live_lem}
use Rattle.ee_core.proofs.laws.moved_words_are_live.Goals as goal

pub returns : goal.returns
returns c = moved_words_are_live_lem
