use Rattle.ee_check.proofs.Texts.{one_first_bad_line_lem}
use Rattle.ee_check.proofs.laws.one_first_bad_line.Goals as goal

pub returns : goal.returns
returns c = one_first_bad_line_lem
