use Rattle.ee_records.proofs.RecordLaws.{other_records_are_kept_lem}
use Rattle.ee_records.proofs.laws.other_records_are_kept.Goals as goal

pub returns : goal.returns
returns c = other_records_are_kept_lem
