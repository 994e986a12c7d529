-- The parts of a line between its spaces are its fields.
use Rattle.std.proofs.Common.{◌≡◌, ℕ, ◌++◌, List, [], ◌∷◌, refl, sym, ◌∙◌, ap, inl, inr, false}
use Rattle.std.specs.Prelude.{◌==◌}
use Rattle.std.specs.List.{AllByRecursion, onto_first}
use Rattle.std.proofs.lemmas.Bool.{cases_Bool, ne_eqb}
use Rattle.std.proofs.lemmas.List.Splits.{join_with_byte-slice_split}
use Rattle.ee_text.specs.Field.{IsField, fields_of, joined_fields, space}
use Rattle.ee_text.proofs.Lacking.{Lacks-parts}

-- a field alone
pub fields_of-field : (field : List ℕ) → IsField field → fields_of field ≡ field ∷ []
fields_of-field [] lacks = refl
fields_of-field (b ∷ bs) lacks =
    let parts = Lacks-parts space b bs lacks in
    rw (ne_eqb b space parts.0, fields_of-field bs parts.1) refl

-- a field, and others after a space
pub fields_of-append : (field rest : List ℕ) → IsField field
    → fields_of (field ++ space ∷ rest) ≡ field ∷ fields_of rest
fields_of-append [] rest lacks = refl
fields_of-append (b ∷ bs) rest lacks =
    let parts = Lacks-parts space b bs lacks in
    rw (ne_eqb b space parts.0, fields_of-append bs rest parts.1) refl

-- joined they give the line back
pub joined-fields_of : (line : List ℕ) → joined_fields (fields_of line) ≡ line
joined-fields_of line = join_with_byte-slice_split space line

onto_first-fields : (b : ℕ) (fields : List (List ℕ)) → (b == space) ≡ false
    → AllByRecursion IsField fields → AllByRecursion IsField (onto_first b fields)
onto_first-fields b [] other all = rw other (refl, tt)
onto_first-fields b (field ∷ fields) other all = rw other all

-- each of them is a field
pub fields_of-each : (line : List ℕ) → AllByRecursion IsField (fields_of line)
fields_of-each [] = (refl, tt)
fields_of-each (b ∷ bs) = elim (cases_Bool (b == space)) [
  | inl same ↦ rw same (refl, fields_of-each bs)
  | inr other ↦ rw other (onto_first-fields b (fields_of bs) other (fields_of-each bs))
]

-- and there are no others
pub fields_of-joined : (first : List ℕ) (others : List (List ℕ))
    → AllByRecursion IsField (first ∷ others)
    → fields_of (joined_fields (first ∷ others)) ≡ first ∷ others
fields_of-joined first [] all = fields_of-field first all.0
fields_of-joined first (next ∷ others) all =
    rw (fields_of-append first (joined_fields (next ∷ others)) all.0)
    (ap (λ l. first ∷ l) (fields_of-joined next others all.1))

-- what the reader of a line has to give is what the line has
pub of_line : (line : List ℕ) → line ≡ joined_fields (fields_of line)
of_line line = sym (joined-fields_of line)

pub no_others : (line first : List ℕ) (others : List (List ℕ))
    → AllByRecursion IsField (first ∷ others) → line ≡ joined_fields (first ∷ others)
    → fields_of line ≡ first ∷ others
no_others line first others all e = ap fields_of e ∙ fields_of-joined first others all

-- for a reader of fields
pub ruleset parting = (of_line, fields_of-each, no_others, fields_of-field, fields_of-append)
