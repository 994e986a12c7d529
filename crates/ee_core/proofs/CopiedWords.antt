-- The elements of the addresses that are copied, address by address.
use Rattle.ee_core.proofs.Words.{◌≡◌, inl, inr, ℕ, ◌<◌, ◌≤◌, true, false, Some, None, List, [], ◌∷◌, ◌++◌, refl, ap, ◌∙◌, arith, suc, zero, append-nil, cases_lt, rules}
use Rattle.ee_core.proofs.Sets.{element, Held, Change, Map, IsNextLive}
use Rattle.ee_core.proofs.Calls.{element_at, elements_of, map_without, names}
use Rattle.ee_core.proofs.CopiedMaps.{without-at, without-other}
use Rattle.ee_core.specs.Picture.{elements_to}

pub no_elements : (map : Map) → elements_to map zero ≡ []
unfolding elements_to
no_elements _ = refl

pub one_further : (map : Map) (n : ℕ)
    → elements_to map (suc n) ≡ elements_to map n ++ element_at (suc n) (map (suc n))
unfolding elements_to
one_further _ n = refl

-- up to an address behind which none has a value for a while
pub none_between : (map : Map) (from to : ℕ) → from ≤ to
    → ((address : ℕ) → from < address → address ≤ to → map address ≡ None)
    → elements_to map to ≡ elements_to map from
none_between map from zero h _ = ap (elements_to map) (omega arith)
none_between map from (suc to) h none = elim (cases_lt _ _) [
  | inr last ↦ ap (elements_to map) (omega arith)
  | inl more ↦
      one_further map to
      ∙ ap (λ value. elements_to map to ++ element_at (suc to) value)
      (none (suc to) more (omega arith))
      ∙ append-nil (elements_to map to)
      ∙ none_between map from to (omega arith) (λ address low high. none address low (omega arith))
]

-- with the next address that has a value
pub next_element : (map : Map) (above next value : ℕ) → IsNextLive map above (Some (next, value))
    → elements_to map next ≡ elements_to map above ++ (Held (element next value) ∷ [])
next_element _ _ zero _ is = absurd (omega arith)
next_element map above (suc next) value is =
    one_further map next
    ∙ ap (λ held. elements_to map next ++ element_at (suc next) held) is.1
    ∙ ap (λ words. words ++ (Held (element (suc next) value) ∷ []))
    (none_between map above next (omega arith)
    (λ address low high. is.2 address low (omega arith)))

module _ (map : Map) (changes : List Change) where
  abbrev pub others : Map
  others = map_without changes map

  other_none : (address : ℕ) → map address ≡ None → others address ≡ None
  other_none address none = search (rules, without-at, without-other)

  -- the next address is copied
  pub copied_word : (above next value : ℕ) → IsNextLive map above (Some (next, value))
      → names changes next ≡ false
      → elements_to others next ≡ elements_to others above ++ (Held (element next value) ∷ [])
  copied_word above next value is away = search (rules, next_element, without-other, other_none)

  -- or it is one that is not
  pub passed_word : (above next value : ℕ) → IsNextLive map above (Some (next, value))
      → names changes next ≡ true → elements_to others next ≡ elements_to others above
  passed_word above next _ is here = search (rules, none_between, without-at, other_none)

  -- where none has a value behind it, they are all there
  pub all_words : (above : ℕ) → above < 65535 → IsNextLive map above None
      → elements_of others ≡ elements_to others above
  all_words above h none = search (rules, none_between, other_none)

  pub no_words : elements_to others 0 ≡ []
  no_words = no_elements others
