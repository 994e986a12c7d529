use Rattle.ee_records.proofs.Told.{one_word_is_told_lem}
use Rattle.ee_records.proofs.laws.one_word_is_told.Goals as goal

pub returns : goal.returns
returns c = one_word_is_told_lem
