-- What a tear leaves of a page, word by word.
use Rattle.std.proofs.Common.{◌≡◌, ◌⊎◌, inl, inr, ℕ, ◌<◌, ◌%◌, Bool, true, false, cond, eqb, List, length, get_or, replicate, refl, sym, ap, ◌∙◌, arith}
use Rattle.std.specs.List.{All, enumerate_from}
use Rattle.std.proofs.lemmas.Bool.{cases_lt}
use Rattle.std.proofs.lemmas.List.{ext_get_or, get_or-map, get_or_past, get_or-replicate, length-map, length-replicate}
use Rattle.std.proofs.lemmas.List.Elements.{All-from_get_or, All-get_or}
use Rattle.std.proofs.lemmas.List.FromFn.{get_or-enumerate_from, length-enumerate_from}
use Rattle.ee_flash.specs.Device.{IsBelowAllOnes}
use Rattle.ee_flash.specs.Fuse.{left_at, left_page}
use Rattle.ee_flash.specs.Step.{IsPartlyErased}
use Rattle.ee_flash.specs.declared.fuse.Tear.{Tear}
use Rattle.ee_flash.specs.declared.fuse.Tear.TheVariants.{Nothing, Done, Mixed, Torn as AllTorn}
use Rattle.ee_flash.specs.declared.word.Word.{Word}
use Rattle.ee_flash.specs.declared.word.Word.TheVariants.{Erased, Torn}

pub length-left_page : (tear : Tear) (words : List Word)
    → length (left_page tear words) ≡ length words
unfolding left_page
length-left_page tear words = length-map (enumerate_from 0 words) _ ∙ length-enumerate_from 0 words

pub get_or-left_page : (tear : Tear) (words : List Word) (at : ℕ) → at < length words
    → get_or (left_page tear words) at Erased ≡ left_at tear at (get_or words at Erased)
unfolding left_page
get_or-left_page tear words at h =
    let none : ℕ × Word = (0, Erased) in
    get_or-map (λ (placed : ℕ × Word). left_at tear placed.0 placed.1) (enumerate_from 0 words) at
    none Erased (omega (arith, length-enumerate_from 0 words))
    ∙ ap (λ (placed : ℕ × Word). left_at tear placed.0 placed.1)
    (get_or-enumerate_from 0 words at none h
    ∙ ap (λ (place : ℕ). (place, get_or words at Erased)) (omega arith))

mixed_cases : (first second : Bool) (word : Word) → let left : Word =
    cond first word (cond second Erased Torn) in (left ≡ word) ⊎ (left ≡ Erased) ⊎ (left ≡ Torn)
mixed_cases true second word = inl refl
mixed_cases false true word = inr (inl refl)
mixed_cases false false word = inr (inr refl)

-- each word of what a tear leaves is old, erased or torn
pub left_at-cases : (tear : Tear) (at : ℕ) (word : Word)
    → (left_at tear at word ≡ word) ⊎ (left_at tear at word ≡ Erased)
    ⊎ (left_at tear at word ≡ Torn)
left_at-cases Nothing at word = inl refl
left_at-cases Done at word = inr (inl refl)
left_at-cases AllTorn at word = inr (inr refl)
left_at-cases Mixed at word = mixed_cases (eqb (at % 3) 0) (eqb (at % 3) 1) word

pub IsPartlyErased-left_page : (tear : Tear) (words : List Word)
    → IsPartlyErased words (left_page tear words)
IsPartlyErased-left_page tear words = record {
  as_long = length-left_page tear words;
  each = λ at. elim (cases_lt at (length words)) [
    | inl below ↦ rw (get_or-left_page tear words at below)
        (left_at-cases tear at (get_or words at Erased))
    | inr past ↦ inl
        (get_or_past (left_page tear words) at Erased (omega (arith, length-left_page tear words))
        ∙ sym (get_or_past words at Erased past))
  ];
}

-- a whole erase leaves every word erased
pub left_page-done : (words : List Word) → left_page Done words ≡ replicate (length words) Erased
left_page-done words =
    ext_get_or Erased _ _
    (length-left_page Done words ∙ sym (length-replicate (length words) Erased)) (λ at h.
    let below : at < length words = omega (arith, length-left_page Done words) in
    get_or-left_page Done words at below
    ∙ sym (get_or-replicate (length words) at Erased Erased below))

-- no tear makes a word of all ones
pub All-left_page : (tear : Tear) (words : List Word) → All IsBelowAllOnes words
    → All IsBelowAllOnes (left_page tear words)
All-left_page tear words each =
    All-from_get_or IsBelowAllOnes _ Erased (λ at h.
    let below : at < length words = omega (arith, length-left_page tear words) in
    rw (get_or-left_page tear words at below) (λ value held.
    elim (left_at-cases tear at (get_or words at Erased)) [
      | inl old ↦ All-get_or IsBelowAllOnes words at Erased below each value (sym old ∙ held)
      | inr (inl erased) ↦ cc
      | inr (inr torn) ↦ cc
    ]))
