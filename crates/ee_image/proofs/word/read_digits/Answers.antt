use Rattle.std.proofs.Common.{rules, ◌≡◌, Some, arith, ap, sym, ◌∙◌, inl, inr}
use Rattle.ee_image.specs.Text.{digits}
use Rattle.ee_image.proofs.Digits.{not_refused, read_back}
use Rattle.ee_image.proofs.word.read_digits.Goals as goal

pub returns-in_err-ok-clause-only : goal.returns-in_err-ok-clause-only
returns-in_err-ok-clause-only c = λ value below spelled.
    absurd
    (not_refused c.args.text.now value c.from_hex.result c.ok.result spelled c.from_hex.ensures
    c.ok.ensures.variant c.in_err-ok.was)

-- what the eight bytes are worth is the number that was spelled
pub returns-then-ne-clause-only : goal.returns-then-ne-clause-only
returns-then-ne-clause-only c = λ value below spelled.
    let same : c.from_be_bytes-value.result ≡ value =
    read_back c.args.text.now value c.from_be_bytes-value.result c.from_hex.result c.ok.result
    c.in_ok-ok.field-0 (omega arith) spelled c.from_hex.ensures c.ok.ensures.value
    c.in_ok-ok.was c.from_be_bytes-value.ensures in
    let written : c.digits_of.result ≡ c.args.text.now =
    c.digits_of.ensures ∙ ap digits same ∙ sym spelled in
    elim c.then-ne.either [ inl other ↦ search rules | inr greatest ↦ absurd (omega arith) ]

pub returns-clause-only : goal.returns-clause-only
returns-clause-only c = λ value below spelled.
    ap Some
    (read_back c.args.text.now value c.from_be_bytes-value.result c.from_hex.result c.ok.result
    c.in_ok-ok.field-0 (omega arith) spelled c.from_hex.ensures c.ok.ensures.value
    c.in_ok-ok.was c.from_be_bytes-value.ensures)

pub returns-clause-found : goal.returns-clause-found
returns-clause-found g = search rules fits 100 parts 0
