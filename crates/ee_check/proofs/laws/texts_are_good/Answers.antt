use Rattle.ee_check.proofs.Texts.{texts_are_good_lem}
use Rattle.ee_check.proofs.laws.texts_are_good.Goals as goal

pub returns : goal.returns
returns c = texts_are_good_lem
