use Rattle.ee_check.proofs.Texts.{one_text_lem}
use Rattle.ee_check.proofs.laws.one_text.Goals as goal

pub returns : goal.returns
returns c = one_text_lem
