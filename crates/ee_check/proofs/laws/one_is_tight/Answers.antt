use Rattle.ee_check.proofs.Bounds.{one_is_tight_lem}
use Rattle.ee_check.proofs.laws.one_is_tight.Goals as goal

pub returns : goal.returns
returns c = one_is_tight_lem
