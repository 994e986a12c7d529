use Rattle.std.proofs.Common.{rules, ◌≡◌, [], ◌∷◌, Some, None, codes, sym, ◌∙◌}
use Rattle.std.specs.Fmt.{decimal}
use Rattle.ee_text.specs.Fields.{fields_left}
use Rattle.ee_image.proofs.Lines.{size_fields}
use Rattle.ee_image.proofs.Rows.{same_parts, none_left}
use Rattle.ee_image.proofs.reading.read_heading.Goals as goal

pub returns-then-ne-clause-only : goal.returns-then-ne-clause-only
returns-then-ne-clause-only c = λ size fits spelled.
    let all =
    c.of-fields.ensures.only (codes "ee") (decimal size.pages ∷ decimal size.words ∷ [])
    (size_fields size fits) spelled in
    let first = (same_parts (fields_left c.of-fields.result) (fields_left c.next.new.self)
    (decimal size.pages ∷ decimal size.words ∷ []) c.in_ok-next.field-0.now (codes "ee")
    c.in_ok-next.ensures.steps all).0 in
    search rules

pub returns-in_err-pages-clause-only : goal.returns-in_err-pages-clause-only
returns-in_err-pages-clause-only c = λ size fits spelled.
    let all =
    c.of-fields.ensures.only (codes "ee") (decimal size.pages ∷ decimal size.words ∷ [])
    (size_fields size fits) spelled in
    let one = (same_parts (fields_left c.of-fields.result) (fields_left c.next.new.self)
    (decimal size.pages ∷ decimal size.words ∷ []) c.in_ok-next.field-0.now (codes "ee")
    c.in_ok-next.ensures.steps all).1 in
    let read = (c.next_number.ensures.only size.pages (decimal size.words ∷ []) fits.pages one).0 in
    let none : c.next_number.result ≡ None = search rules in
    absurd (cc (read, none))

pub returns-in_err-words-clause-only : goal.returns-in_err-words-clause-only
returns-in_err-words-clause-only c = λ size fits spelled.
    let all =
    c.of-fields.ensures.only (codes "ee") (decimal size.pages ∷ decimal size.words ∷ [])
    (size_fields size fits) spelled in
    let one = (same_parts (fields_left c.of-fields.result) (fields_left c.next.new.self)
    (decimal size.pages ∷ decimal size.words ∷ []) c.in_ok-next.field-0.now (codes "ee")
    c.in_ok-next.ensures.steps all).1 in
    let two = (c.next_number.ensures.only size.pages (decimal size.words ∷ []) fits.pages one).1 in
    let read = (c.next_number-2.ensures.only size.words [] fits.words two).0 in
    let none : c.next_number-2.result ≡ None = search rules in
    absurd (cc (read, none))

pub returns-then-is_some-clause-only : goal.returns-then-is_some-clause-only
returns-then-is_some-clause-only c = λ size fits spelled.
    let all =
    c.of-fields.ensures.only (codes "ee") (decimal size.pages ∷ decimal size.words ∷ [])
    (size_fields size fits) spelled in
    let one = (same_parts (fields_left c.of-fields.result) (fields_left c.next.new.self)
    (decimal size.pages ∷ decimal size.words ∷ []) c.in_ok-next.field-0.now (codes "ee")
    c.in_ok-next.ensures.steps all).1 in
    let two = (c.next_number.ensures.only size.pages (decimal size.words ∷ []) fits.pages one).1 in
    let three = (c.next_number-2.ensures.only size.words [] fits.words two).1 in
    absurd
    (none_left (fields_left c.next_number-2.new.fields) (fields_left c.next-2.new.self)
    c.next-2.result three c.next-2.ensures.steps (sym c.if-is_some.ensures))

pub returns-clause-only : goal.returns-clause-only
returns-clause-only c = λ size fits spelled.
    let all =
    c.of-fields.ensures.only (codes "ee") (decimal size.pages ∷ decimal size.words ∷ [])
    (size_fields size fits) spelled in
    let one = (same_parts (fields_left c.of-fields.result) (fields_left c.next.new.self)
    (decimal size.pages ∷ decimal size.words ∷ []) c.in_ok-next.field-0.now (codes "ee")
    c.in_ok-next.ensures.steps all).1 in
    let two = (c.next_number.ensures.only size.pages (decimal size.words ∷ []) fits.pages one).1 in
    let pages : Some c.in_ok-pages.pages ≡ Some size.pages =
    sym c.in_ok-pages.was
    ∙ (c.next_number.ensures.only size.pages (decimal size.words ∷ []) fits.pages one).0 in
    let words : Some c.in_ok-words.words ≡ Some size.words =
    sym c.in_ok-words.was ∙ (c.next_number-2.ensures.only size.words [] fits.words two).0 in
    cc (pages, words)
