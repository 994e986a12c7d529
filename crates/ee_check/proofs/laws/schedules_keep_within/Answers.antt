use Rattle.ee_check.proofs.Bounds.{schedules_keep_within_lem}
use Rattle.ee_check.proofs.laws.schedules_keep_within.Goals as goal

pub returns : goal.returns
returns c = schedules_keep_within_lem
