use Rattle.std.proofs.Common.{rules, ap, arith, length, length-append}
use Rattle.ee_image.proofs.Taken.{behind_front, cut_behind_wear, field_at_front}
use Rattle.ee_image.proofs.reading.leading_wear.Goals as goal

pub returns-in_err-number-clause-only : goal.returns-in_err-number-clause-only
returns-in_err-number-clause-only c = search (rules, cut_behind_wear)

pub slice_bounds-result-count : goal.slice_bounds-result-count
slice_bounds-result-count c =
    let front =
    field_at_front c.min.result c.args.text.now c.next_field.result.0.now c.next_field.result.1
    c.next_field.ensures.last c.next_field.ensures.more in
    let long = ap length front.text_is in
    omega (arith, length-append c.next_field.result.0.now front.behind)

pub returns-clause-found : goal.returns-clause-found
returns-clause-found c = search (rules, field_at_front, behind_front)

pub returns-clause-only : goal.returns-clause-only
returns-clause-only c = search (rules, cut_behind_wear, behind_front)
