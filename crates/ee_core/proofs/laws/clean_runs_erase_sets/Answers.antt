use Rattle.ee_core.proofs.Running.{clean_runs_erase_sets_lem}
use Rattle.ee_core.proofs.laws.clean_runs_erase_sets.Goals as goal

pub returns : goal.returns
returns c = search clean_runs_erase_sets_lem
