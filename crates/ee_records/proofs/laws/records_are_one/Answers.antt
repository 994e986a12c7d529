use Rattle.ee_records.proofs.RecordLaws.{records_are_one_lem}
use Rattle.ee_records.proofs.laws.records_are_one.Goals as goal

pub returns : goal.returns
returns c = records_are_one_lem
