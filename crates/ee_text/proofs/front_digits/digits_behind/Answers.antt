use Rattle.std.proofs.Common.{◌<◌, arith, drop, subst, take}
use Rattle.std.proofs.lemmas.List.{length-take}
use Rattle.ee_text.specs.Number.{IsWorth, StartsWithNoDigit}
use Rattle.ee_text.proofs.Leading.{ends_in_front, front_is, worth_in_front}
use Rattle.ee_text.proofs.front_digits.digits_behind.Goals as goal

pub returns-clause-found : goal.returns-clause-found
returns-clause-found c =
    let text = c.args.text.now in
    let count = c.few_digits-value.result.1 in
    let front = front_is text c.min.result c.min.ensures in
    let worth : IsWorth (take 19 text) count c.few_digits-value.result.0 =
    subst (λ l. IsWorth l count c.few_digits-value.result.0) front
    c.few_digits-value.ensures.worth in
    let ends : StartsWithNoDigit (drop count (take 19 text)) =
    subst (λ l. StartsWithNoDigit (drop count l)) front c.few_digits-value.ensures.all in
    let few : count < 19 = let within = worth.within in omega (arith, length-take 19 text) in (
      worth_in_front text 19 count c.few_digits-value.result.0 worth,
      ends_in_front text 19 count few ends,
    )
