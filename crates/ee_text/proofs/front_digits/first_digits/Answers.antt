use Rattle.std.proofs.Common.{◌≡◌, drop, subst, take}
use Rattle.ee_text.specs.Number.{IsWorth, StartsWithNoDigit}
use Rattle.ee_text.proofs.Leading.{ends_in_front, worth_in_front}
use Rattle.ee_text.proofs.front_digits.first_digits.Goals as goal

pub returns-in-Some-clause-worth : goal.returns-in-Some-clause-worth
returns-in-Some-clause-worth c =
    let front : c.in-Some.bytes.now ≡ take 8 c.args.text.now = c.in-Some.ensures.cases.same in
    worth_in_front c.args.text.now 8 c.eight_bytes.result.1 c.eight_bytes.result.0
    (subst (λ l. IsWorth l c.eight_bytes.result.1 c.eight_bytes.result.0) front
    c.eight_bytes.ensures.worth)

pub returns-in-Some-clause-all : goal.returns-in-Some-clause-all
returns-in-Some-clause-all c = λ long few.
    let front : c.in-Some.bytes.now ≡ take 8 c.args.text.now = c.in-Some.ensures.cases.same in
    ends_in_front c.args.text.now 8 c.eight_bytes.result.1 few
    (subst (λ l. StartsWithNoDigit (drop c.eight_bytes.result.1 l)) front
    c.eight_bytes.ensures.all)
