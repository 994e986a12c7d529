use Rattle.ee_core.proofs.Running.{runs_go_on_lem}
use Rattle.ee_core.proofs.laws.runs_go_on.Goals as goal

pub returns : goal.returns
returns c = search runs_go_on_lem
