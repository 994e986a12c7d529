use Rattle.std.proofs.Common.{◌∙◌, ℕ}
use Rattle.std.proofs.lemmas.Result.{err_from_is_err_and}
use Rattle.ee_records.proofs.Prepared.{completed, last_refused}
use Rattle.ee_records.proofs.record.Record.write.Goals as goal

pub put_value-requires : goal.put_value-requires
put_value-requires g c =
    let prepared = rw c.in-Some.is at c.in_ok-put.ensures in
    prepared.0.1.same_power ∙ prepared.0.0

pub returns-in_err-put_value : goal.returns-in_err-put_value
returns-in_err-put_value g c =
    let prepared = rw c.in-Some.is at c.in_ok-put.ensures in
    let p =
    err_from_is_err_and c.from_residual-in_err-put_value.result
    c.from_residual-in_err-put_value.ensures.1 in
    rw (p.1, p.2)
    (last_refused _ _ _ _ _ _ _ _ prepared.0 prepared.1 prepared.2 prepared.3 ℕ _
    c.in_err-put_value.ensures)

pub returns : goal.returns
returns g c =
    let prepared = rw c.in-Some.is at c.in_ok-put.ensures in
    let puts = c.in_ok-put_value.ensures in
    completed _ _ _ _ _ _ _ _ prepared.0 prepared.1 prepared.2 prepared.3 prepared.4
    puts.0 puts.1 puts.2 puts.3
