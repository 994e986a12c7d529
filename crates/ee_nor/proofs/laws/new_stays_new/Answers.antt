use Rattle.ee_nor.proofs.CodedLemmas.FirstStarts.{new_stays_new}
use Rattle.ee_nor.proofs.laws.new_stays_new.Goals as goal

pub returns : goal.returns
returns c = new_stays_new
