use Rattle.ee_check.proofs.Bounds.{tight_is_met_lem}
use Rattle.ee_check.proofs.laws.tight_is_met.Goals as goal

pub returns : goal.returns
returns c = tight_is_met_lem
