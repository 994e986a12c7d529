use Rattle.ee_records.proofs.RecordLaws.{records_grow_lem}
use Rattle.ee_records.proofs.laws.records_grow.Goals as goal

pub returns : goal.returns
returns c = records_grow_lem
