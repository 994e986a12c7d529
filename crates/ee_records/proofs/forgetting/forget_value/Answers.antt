use Rattle.std.proofs.Common.{ℕ}
use Rattle.ee_records.proofs.Puts.{forgot, forgot_cut}
use Rattle.ee_records.proofs.forgetting.forget_value.Goals as goal

pub returns-in-Err-Cut : goal.returns-in-Err-Cut
returns-in-Err-Cut g c =
    forgot_cut ℕ _ _ _ (rw c.in-Err-Cut.field-0-is at c.in-Err-Cut.ensures)

pub returns-in-Ok : goal.returns-in-Ok
returns-in-Ok g c = forgot {T = ℕ} 0 _ _ _ c.in-Ok.field-0 c.in-Ok.ensures
