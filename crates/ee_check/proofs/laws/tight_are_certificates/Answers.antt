use Rattle.ee_check.proofs.Bounds.{tight_are_certificates_lem}
use Rattle.ee_check.proofs.laws.tight_are_certificates.Goals as goal

pub returns : goal.returns
returns c = tight_are_certificates_lem
