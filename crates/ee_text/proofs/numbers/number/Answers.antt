-- proofs/numbers/number/Answers.antt
use Rattle.std.proofs.Common.{◌≡◌, ◌<◌, arith, rules, length}
use Rattle.ee_text.proofs.Digits.{found, no_leading_zero}
use Rattle.ee_text.proofs.numbers.number.Goals as goal
use Rattle.ee_text.proofs.numbers.number.Goals.{else-first-eq48-via-then-first-eq48+else-not-is_empty, else-first-eq48-via-else-first-eq48}

pub returns-then-not-is_empty-clause-only : goal.returns-then-not-is_empty-clause-only
returns-then-not-is_empty-clause-only c n fits e =
    let others = c.in_ok-first.others.now in
    let some : 0 < length others = search rules in
    absurd
    (no_leading_zero c.args.field.now others c.in_ok-first.first.now
    c.in_ok-first.ensures.cases.0 c.if-first-eq48.true some n fits e)

pub returns-clause-found : goal.returns-clause-found
returns-clause-found c =
    let plain : c.in_ok-first.first.now ≡ 48 → length c.in_ok-first.others.now ≡ 0 =
    λ zero. elim c.else-first-eq48.branch [
      | else-first-eq48-via-then-first-eq48+else-not-is_empty w ↦ search rules
      | else-first-eq48-via-else-first-eq48 w ↦ absurd (omega arith)
    ] in
    found c.args.field.now c.in_ok-first.others.now c.in_ok-first.first.now c.value_of_digits.result
    c.in_ok-first.ensures.cases.0 plain c.value_of_digits.ensures
