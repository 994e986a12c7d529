use Rattle.ee_check.proofs.Bounds.{certificates_dominate_lem}
use Rattle.ee_check.proofs.laws.certificates_dominate.Goals as goal

pub returns : goal.returns
returns c = certificates_dominate_lem
