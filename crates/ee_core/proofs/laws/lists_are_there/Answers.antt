use Rattle.ee_core.proofs.Listed.{lists_are_there_lem}
use Rattle.ee_core.proofs.laws.lists_are_there.Goals as goal

pub returns : goal.returns
returns c = lists_are_there_lem
