use Rattle.std.proofs.Common.{◌∙◌, ◌++◌, arith, ap, decimal, subst, sym}
use Rattle.ee_text.specs.Number.{StartsWithNoDigit}
use Rattle.ee_text.proofs.Leading.{no_number, not_spelled, one_number, rest_is, spelled}
use Rattle.ee_text.proofs.numbers.leading_number.Goals as goal

pub returns-in_err-value-clause-only : goal.returns-in_err-value-clause-only
returns-in_err-value-clause-only c = λ n behind small ends e.
    let many = c.in_err-value.ensures.too_many in
    absurd (no_number c.args.text.now behind many.0 n many.1 (omega arith) ends e)

pub returns-then-not-is_plain-clause-only : goal.returns-then-not-is_plain-clause-only
returns-then-not-is_plain-clause-only c = λ n behind small ends e.
    let one =
    one_number c.args.text.now behind c.in_ok-value.count c.in_ok-value.value n
    c.in_ok-value.ensures.found.0 c.in_ok-value.ensures.found.1 (omega arith) ends e in
    absurd (not_spelled _ n (omega arith) c.if-not-is_plain.ensures.not_plain one.2)

pub returns-then-value-from-clause-only : goal.returns-then-value-from-clause-only
returns-then-value-from-clause-only c = λ n behind small ends e.
    let one =
    one_number c.args.text.now behind c.in_ok-value.count c.in_ok-value.value n
    c.in_ok-value.ensures.found.0 c.in_ok-value.ensures.found.1 (omega arith) ends e in
    absurd (search (arith, one.0))

pub returns-clause-found : goal.returns-clause-found
returns-clause-found c =
    let rest = rest_is c.args.text.now c.in_ok-value.count in (
      search arith,
      spelled c.args.text.now c.in_ok-value.count c.in_ok-value.value c.in_ok-value.ensures.found.0
          (omega arith) c.if-not-is_plain.ensures.plain.0 c.if-not-is_plain.ensures.plain.1
          ∙ ap (λ l. decimal c.in_ok-value.value ++ l) (sym rest),
      subst StartsWithNoDigit (sym rest) c.in_ok-value.ensures.found.1,
    )

pub returns-clause-only : goal.returns-clause-only
returns-clause-only c = λ n behind small ends e.
    let one =
    one_number c.args.text.now behind c.in_ok-value.count c.in_ok-value.value n
    c.in_ok-value.ensures.found.0 c.in_ok-value.ensures.found.1 (omega arith) ends e in
    (one.0, rest_is c.args.text.now c.in_ok-value.count ∙ one.1)
