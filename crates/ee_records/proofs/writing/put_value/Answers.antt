use Rattle.std.proofs.Common.{ℕ}
use Rattle.ee_records.proofs.Puts.{wrote_cut}
use Rattle.ee_records.proofs.writing.put_value.Goals as goal

pub returns-in-Err-Cut : goal.returns-in-Err-Cut
returns-in-Err-Cut g c =
    wrote_cut ℕ _ _ _ _ (rw c.in-Err-Cut.field-0-is at c.in-Err-Cut.ensures)
