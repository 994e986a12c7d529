use Rattle.ee_check.proofs.Bounds.{late_stores_meet_it_lem}
use Rattle.ee_check.proofs.laws.late_stores_meet_it.Goals as goal

pub returns : goal.returns
returns c = late_stores_meet_it_lem
