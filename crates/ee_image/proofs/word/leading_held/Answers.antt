use Rattle.std.proofs.Common.{◌≡◌, ◌++◌, ◌<◌, length, take, drop, arith, ap, sym, ◌∙◌, length-append, take-append-drop}
use Rattle.ee_flash.specs.declared.word.Word.TheVariants.{Held}
use Rattle.ee_flash.proofs.Public.{below-held}
use Rattle.ee_image.specs.Text.{digits}
use Rattle.ee_image.proofs.Digits.{first_sixteen, length-digits}
use Rattle.ee_image.proofs.word.leading_held.Goals as goal

pub returns-in_err-digits-clause-only : goal.returns-in_err-digits-clause-only
returns-in_err-digits-clause-only c = λ value behind less e.
    let short : length c.args.text.now < 16 = c.in_err-digits.ensures.cases in
    absurd (omega (arith, ap length e, length-append (digits value) behind, length-digits value))

pub returns-in_err-read_digits-clause-only : goal.returns-in_err-read_digits-clause-only
returns-in_err-read_digits-clause-only c = λ value behind less e.
    let parts = first_sixteen c.args.text.now behind value e in
    let read =
    c.in_err-read_digits.ensures.only value less (c.in_ok-digits.ensures.cases.0 ∙ parts.0) in
    absurd (cc read)

pub returns-clause-found : goal.returns-clause-found
returns-clause-found c =
    let value = c.in_ok-read_digits.field-0 in
    let front : take 16 c.args.text.now ≡ digits value =
    sym c.in_ok-digits.ensures.cases.0 ∙ c.in_ok-read_digits.ensures.found.1 in (
      below-held value c.in_ok-read_digits.ensures.found.0,
      sym (take-append-drop 16 c.args.text.now) ∙ ap (λ l. l ++ drop 16 c.args.text.now) front
          ∙ ap (λ l. digits value ++ l) (sym c.in_ok-digits.ensures.cases.1),
    )

pub returns-clause-only : goal.returns-clause-only
returns-clause-only c = λ value behind less e.
    let parts = first_sixteen c.args.text.now behind value e in
    let read =
    c.in_ok-read_digits.ensures.only value less (c.in_ok-digits.ensures.cases.0 ∙ parts.0) in
    let same : c.in_ok-read_digits.field-0 ≡ value = cc read in
    (ap Held same, c.in_ok-digits.ensures.cases.1 ∙ parts.1)
