use Rattle.std.proofs.Common.{ℕ, Err, Ok, subst}
use Rattle.ee_core.specs.Calls.{Forgets}
use Rattle.ee_records.proofs.Trimmed.{forget_refused, forgot_record}
use Rattle.ee_records.proofs.record.Record.forget.Goals as goal

pub returns-in-Err : goal.returns-in-Err
returns-in-Err g c =
    let P : ℕ → Type 0 =
    λ base. Forgets (g.V.Variables.device c.args.store.now) base (Err c.in-Err.fault)
    (g.V.Variables.device c.forget.new.self) in
    forget_refused ℕ c.in-Err.fault _ _ c.args.self.now.base c.args.self.now.words
    (subst P c.base.ensures c.in-Err.ensures)

pub returns-in-Ok : goal.returns-in-Ok
returns-in-Ok g c =
    let P : ℕ → Type 0 =
    λ base. Forgets (g.V.Variables.device c.args.store.now) base (Ok c.in-Ok.field-0)
    (g.V.Variables.device c.forget.new.self) in
    forgot_record ℕ 0 _ _ c.args.self.now.base c.args.self.now.words c.in-Ok.field-0
    (subst P c.base.ensures c.in-Ok.ensures)
