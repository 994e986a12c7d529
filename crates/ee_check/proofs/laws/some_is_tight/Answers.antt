use Rattle.ee_check.proofs.Bounds.{some_is_tight_lem}
use Rattle.ee_check.proofs.laws.some_is_tight.Goals as goal

pub returns : goal.returns
returns c = some_is_tight_lem
