-- The lines of a text: how the first is told from the rest.
use Rattle.std.proofs.Common.{◌≡◌, ◌≢◌, ◌⊎◌, ℕ, ◌<◌, List, [], ◌∷◌, ◌++◌, length, refl, ap, ◌∙◌, arith, append_assoc, length-append, inl, inr, Option, Err}
use Rattle.std.proofs.lemmas.Bool.{ne_eqb, cases_eq}
use Rattle.ee_text.specs.Line.{IsLine, line_of}
use Rattle.ee_text.proofs.Public.{Lacks-parts, Lacks-cons}
use Rattle.ee_shell.specs.Dumps.intel_hex.Reading.{lines_in, cells_at_end}

-- a text with no line feed
pub lines_in-rest : (text : List ℕ) → IsLine text → lines_in text ≡ text ∷ []
lines_in-rest [] lacks = refl
lines_in-rest (b ∷ bs) lacks =
    let parts = Lacks-parts 10 b bs lacks in
    rw (ne_eqb b 10 parts.0, lines_in-rest bs parts.1) refl

lines_in-feed : (line rest : List ℕ) → IsLine line
    → lines_in (line ++ 10 ∷ rest) ≡ line ∷ lines_in rest
lines_in-feed [] rest lacks = refl
lines_in-feed (b ∷ bs) rest lacks =
    let parts = Lacks-parts 10 b bs lacks in
    rw (ne_eqb b 10 parts.0, lines_in-feed bs rest parts.1) refl

-- a line, and others behind it
pub lines_in-line : (text line rest : List ℕ) → IsLine line → text ≡ line_of line ++ rest
    → lines_in text ≡ line ∷ lines_in rest
lines_in-line text line rest in_line e =
    ap lines_in (e ∙ append_assoc line (10 ∷ []) rest) ∙ lines_in-feed line rest in_line

-- a text has a first line
pub record HasLine (text : List ℕ) : Type 0 where
  pub line : List ℕ
  pub rest : List ℕ
  pub in_line : IsLine line
  pub text_is : text ≡ line_of line ++ rest

-- or no line feed
pub first_of : (text : List ℕ) → IsLine text ⊎ HasLine text
first_of [] = inl refl
first_of (b ∷ bs) = elim (cases_eq b 10) [
  | inl same ↦ inr record { line = []; rest = bs; in_line = refl; text_is = ap (λ c. c ∷ bs) same }
  | inr other ↦ elim (first_of bs) [
    | inl lacks ↦ inl (Lacks-cons 10 b bs other lacks)
    | inr found ↦ inr record {
      line = b ∷ found.line;
      rest = found.rest;
      in_line = Lacks-cons 10 b found.line other found.in_line;
      text_is = ap (λ l. b ∷ l) found.text_is;
    }
  ]
]

pub shorter : (text line rest : List ℕ) → text ≡ line_of line ++ rest → length rest < length text
shorter text line rest e =
    omega (arith, ap length e, length-append (line_of line) rest, length-append line (10 ∷ []))

-- some line stands in each text, be it empty
pub record HasParts (text : List ℕ) : Type 0 where
  pub first : List ℕ
  pub others : List (List ℕ)
  pub parts_are : lines_in text ≡ first ∷ others

pub some_part : (text : List ℕ) → HasParts text
some_part text = elim (first_of text) [
  | inl lacks ↦ record { first = text; others = []; parts_are = lines_in-rest text lacks }
  | inr found ↦ record {
    first = found.line;
    others = lines_in found.rest;
    parts_are = lines_in-line text found.line found.rest found.in_line found.text_is;
  }
]

-- behind an end a text that isn't empty is one line too many
pub closed-more : (n : ℕ) (cells : List (Option ℕ)) (text : List ℕ) → text ≢ []
    → cells_at_end n cells (lines_in text) ≡ Err n
closed-more n cells [] some = absurd (some refl)
closed-more n cells (b ∷ bs) some =
    let next = some_part bs in
    elim (cases_eq b 10) [
      | inl same ↦ rw (same, next.parts_are) refl
      | inr other ↦ rw (ne_eqb b 10 other, next.parts_are) refl
    ]
