use Rattle.ee_nor.proofs.CodedLemmas.Marks.{other_mark_is_torn}
use Rattle.ee_nor.proofs.laws.other_mark_is_torn.Goals as goal

pub returns : goal.returns
returns c = other_mark_is_torn
