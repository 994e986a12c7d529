use Rattle.ee_check.proofs.Bounds.{certificates_bound_schedules_lem}
use Rattle.ee_check.proofs.laws.certificates_bound_schedules.Goals as goal

pub returns : goal.returns
returns c = certificates_bound_schedules_lem
