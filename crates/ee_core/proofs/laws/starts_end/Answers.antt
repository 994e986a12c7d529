use Rattle.ee_core.proofs.Startable.{starts_end_lem}
use Rattle.ee_core.proofs.laws.starts_end.Goals as goal

pub returns : goal.returns
returns c = search starts_end_lem
