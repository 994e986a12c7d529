use Rattle.std.proofs.Common.{sym, ◌∙◌}
use Rattle.std.proofs.lemmas.List.{append_cancel_left}
use Rattle.ee_check.proofs.Fields.{number_beside, number_field}
use Rattle.ee_check.proofs.reading.first_number.Goals as goal

pub returns-clause-only : goal.returns-clause-only
returns-clause-only c = λ n rest fits spelled.
    let same =
    number_field c.in_ok-behind.field-0.now c.next_field.result.0.now c.next_field.result.1 n
    rest c.next_field.ensures.field c.next_field.ensures.last
    c.next_field.ensures.more fits
    (append_cancel_left c.args.name.now _ _ (sym c.in_ok-behind.ensures.found ∙ spelled)) in
    rw c.zip.ensures
    (number_beside c.number.result c.next_field.result.1 n rest
    (c.number.ensures.only n fits same.0) same.1)
