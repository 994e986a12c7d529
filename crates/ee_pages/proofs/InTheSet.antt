-- A word put into a page of a set: the set's words and slots afterwards, and when the
-- table is obeyed still.
use Rattle.std.proofs.Common.{◌≡◌, ◌≢◌, ◌⊎◌, inl, inr, ℕ, ◌+◌, ◌-◌, ◌*◌, ◌<◌, ◌≤◌, Bool, true, false, not, ◌&&◌, ◌||◌, cond, nat_le, None, List, [], ◌∷◌, ◌++◌, length, drop, get_or, set, refl, sym, ap, ◌∙◌, arith, suc, zero}
use Rattle.std.specs.List.{All, filter, prefix_len}
use Rattle.std.proofs.lemmas.Bool.{cases_eq}
use Rattle.std.proofs.lemmas.Grind.{common_steps}
use Rattle.std.proofs.lemmas.List.{drop-set-add, drop-set-lt, get_or-set_other, get_or-set_same, length-drop, set-append_left, set-append_right}
use Rattle.ee_flash.specs.Size.{Size}
use Rattle.ee_flash.specs.declared.word.Word.{Word}
use Rattle.ee_flash.specs.declared.word.Word.TheVariants.{Erased}
use Rattle.ee_pages.specs.Legal.{fits, is_allowed, is_allowed_at, place_of, slots_before}
use Rattle.ee_pages.specs.Meaning.{later_of, latest_in, says}
use Rattle.ee_pages.specs.Page.{is_written, word_in}
use Rattle.ee_pages.specs.Sets.{front, slots_of, word_of}
use Rattle.ee_pages.proofs.LastSaid.{later-later, later-none, latest_in-erased}

-- the pages with this word at a place of one of them
abbrev pub with_word_in : List (List Word) → ℕ → ℕ → Word → List (List Word)
with_word_in pages page at word = set pages page (set (get_or pages page []) at word)

-- it stands there, and the other words are as they were
pub word-there : (pages : List (List Word)) (k at : ℕ) (word : Word) → k < length pages
    → at < length (get_or pages k []) → word_of (with_word_in pages k at word) k at ≡ word
word-there pages k at word h within =
    ap (λ words. word_in words at) (get_or-set_same pages k (set (get_or pages k []) at word) [] h)
    ∙ get_or-set_same (get_or pages k []) at word Erased within

pub word-elsewhere : (pages : List (List Word)) (k at : ℕ) (word : Word) (page place : ℕ)
    → k < length pages → (page ≢ k) ⊎ (place ≢ at)
    → word_of (with_word_in pages k at word) page place ≡ word_of pages page place
word-elsewhere pages k at word page place h (inl apart) =
    ap (λ words. word_in words place)
    (get_or-set_other pages k page (set (get_or pages k []) at word) [] apart)
word-elsewhere pages k at word page place h (inr apart) = elim (cases_eq page k) [
  | inr other ↦ ap (λ words. word_in words place)
      (get_or-set_other pages k page (set (get_or pages k []) at word) [] other)
  | inl same ↦
      ap (λ n. word_of (with_word_in pages k at word) n place) same
      ∙ ap (λ words. word_in words place)
      (get_or-set_same pages k (set (get_or pages k []) at word) [] h)
      ∙ get_or-set_other (get_or pages k []) at place word Erased apart
      ∙ ap (λ n. word_of pages n place) (sym same)
]

-- a word of a header leaves the slots as they were
pub slots-header : (pages : List (List Word)) (k at : ℕ) (word : Word) → at < 4
    → slots_of (with_word_in pages k at word) ≡ slots_of pages
slots-header [] k at word h = refl
slots-header (page ∷ pages) zero at word h =
    ap (λ (words : List Word). words ++ slots_of pages) (drop-set-lt 4 page at word h)
slots-header (page ∷ pages) (suc k) at word h =
    ap (λ (words : List Word). drop 4 page ++ words) (slots-header pages k at word h)

-- a word of a slot takes the slot's place
pub slots-slot : (words : ℕ) (pages : List (List Word)) (k j slot : ℕ) (word : Word)
    → All (λ page. length page ≡ words) pages → k < length pages → j < words - 4
    → slot ≡ k * (words - 4) + j
    → slots_of (with_word_in pages k (4 + j) word) ≡ set (slots_of pages) slot word
slots-slot words [] k j slot word each h within is = absurd (omega arith)
slots-slot words (page ∷ pages) zero j slot word each h within is =
    let long : length page ≡ words = each 0 [] (omega arith) in
    let inside : j < length (drop 4 page) = omega (arith, length-drop 4 page, long) in
    let here : slot ≡ j = omega arith in
    ap (λ (first : List Word). first ++ slots_of pages) (drop-set-add 4 page j word)
    ∙ sym
    (ap (λ n. set (drop 4 page ++ slots_of pages) n word) here
    ∙ set-append_left (drop 4 page) (slots_of pages) j word inside)
slots-slot words (page ∷ pages) (suc k) j slot word each h within is =
    let long : length page ≡ words = each 0 [] (omega arith) in
    let here : length (drop 4 page) ≡ words - 4 = omega (arith, length-drop 4 page, long) in
    let before : words - 4 ≤ slot = omega arith in
    let rest : slot - (words - 4) ≡ k * (words - 4) + j = omega arith in
    ap (λ (next : List Word). drop 4 page ++ next)
    (slots-slot words pages k j (slot - (words - 4)) word
    (λ i none below. each (suc i) none (omega arith)) (omega arith) within rest)
    ∙ sym (set-append_right (drop 4 page) (slots_of pages) (words - 4) slot word here before)

module _ {X : Type 0} (p : X → Bool) (y : X) (passes : p y ≡ true) where
  at_most : (b : Bool) (n m : ℕ) → n ≤ m → cond b (1 + n) 0 ≤ 1 + m
  at_most true n m h = omega arith
  at_most false n m h = omega arith

  grows : (b : Bool) (n m : ℕ) → n ≤ m → cond b (1 + n) 0 ≤ cond b (1 + m) 0
  grows true n m h = omega arith
  grows false n m h = omega arith

  -- one that passes, put anywhere, leaves as many at the front that pass, or more
  pub prefix_len-set : (xs : List X) (i : ℕ) → prefix_len p xs ≤ prefix_len p (set xs i y)
  prefix_len-set [] i = omega arith
  prefix_len-set (x ∷ xs) zero =
      rw passes (at_most (p x) (prefix_len p xs) (prefix_len p xs) (omega arith))
  prefix_len-set (x ∷ xs) (suc i) =
      grows (p x) (prefix_len p xs) (prefix_len p (set xs i y)) (prefix_len-set xs i)

  one_longer : (b : Bool) (x : X) (more less : List X) → length more ≡ length less + 1
      → length (cond b (x ∷ more) more) ≡ length (cond b (x ∷ less) less) + 1
  one_longer true x more less h = omega arith
  one_longer false x more less h = h

  -- put in the place of one that does not, it is one more that passes
  pub filter-set : (xs : List X) (i : ℕ) (d : X) → i < length xs → p (get_or xs i d) ≡ false
      → length (filter p (set xs i y)) ≡ length (filter p xs) + 1
  filter-set [] i d h fails = absurd (omega arith)
  filter-set (x ∷ xs) zero d h fails = rw (passes, fails) (omega arith)
  filter-set (x ∷ xs) (suc i) d h fails =
      one_longer (p x) x (filter p (set xs i y)) (filter p xs)
      (filter-set xs i d (omega arith) fails)

-- put in front of erased slots, a word says the last
pub latest_in-set : (slots : List Word) (slot : ℕ) (word : Word) (address : ℕ) → slot < length slots
    → ((k : ℕ) → slot ≤ k → is_written (get_or slots k Erased) ≡ false)
    → latest_in (set slots slot word) address
    ≡ later_of (latest_in slots address) (says word address)
latest_in-set [] slot word address h behind = absurd (omega arith)
latest_in-set (old ∷ slots) zero word address h behind =
    let rest : latest_in slots address ≡ None =
    latest_in-erased slots address (λ k. behind (suc k) (omega arith)) in
    let all : latest_in (old ∷ slots) address ≡ None =
    latest_in-erased (old ∷ slots) address (λ k. behind k (omega arith)) in
    ap (later_of (says word address)) rest
    ∙ sym (ap (λ said. later_of said (says word address)) all ∙ later-none (says word address))
latest_in-set (old ∷ slots) (suc slot) word address h behind =
    ap (later_of (says old address))
    (latest_in-set slots slot word address (omega arith) (λ k low. behind (suc k) (omega arith)))
    ∙ later-later (says old address) (latest_in slots address) (says word address)

-- a word that fits stays allowed where at least as many slots before it are written
pub more_written : (fit written : Bool) (before front more : ℕ)
    → (fit && (not written || nat_le before front)) ≡ true → front ≤ more
    → (fit && (not written || nat_le before more)) ≡ true
more_written fit written before front more h grows = grind (arith, common_steps)

pub behind_written : (fit written : Bool) (before front : ℕ) → fit ≡ true → before ≤ front
    → (fit && (not written || nat_le before front)) ≡ true
behind_written fit written before front h behind = grind (arith, common_steps)

-- each word of the set may stand in its place
abbrev pub IsObeyed : Size → ℕ → List (List Word) → Type 0
IsObeyed size generation pages =
    (page at : ℕ) → page < size.pages → at < size.words
    → is_allowed_at size generation pages page at ≡ true

as_before : (size : Size) (generation : ℕ) (old new : List (List Word)) (page place : ℕ)
    → front (slots_of old) ≤ front (slots_of new) → word_of new page place ≡ word_of old page place
    → is_allowed_at size generation old page place ≡ true
    → is_allowed_at size generation new page place ≡ true
as_before size generation old new page place grows same allowed =
    ap (λ word. is_allowed size generation (front (slots_of new)) page place word) same
    ∙ more_written (fits generation (place_of page place) (word_of old page place))
    (is_written (word_of old page place)) (slots_before size page place) (front (slots_of old))
    (front (slots_of new)) allowed grows

-- The table is obeyed still, where the front is no less and only this one word differs, which fits
-- and stands behind written slots.
pub still_obeyed : (size : Size) (generation k at : ℕ) (old new : List (List Word))
    → IsObeyed size generation old → front (slots_of old) ≤ front (slots_of new)
    → ((page place : ℕ) → (page ≢ k) ⊎ (place ≢ at)
    → word_of new page place ≡ word_of old page place)
    → fits generation (place_of k at) (word_of new k at) ≡ true
    → slots_before size k at ≤ front (slots_of new) → IsObeyed size generation new
still_obeyed size generation k at old new obeyed grows other fit behind page place in_range within
    =
    elim (cases_eq page k) [
      | inr apart ↦ as_before size generation old new page place grows
          (other page place (inl apart))
          (obeyed page place in_range within)
      | inl here ↦ elim (cases_eq place at) [
        | inr apart ↦ as_before size generation old new page place grows
            (other page place (inr apart))
            (obeyed page place in_range within)
        | inl there ↦
            ap (λ n. is_allowed_at size generation new n place) here
            ∙ ap (λ n. is_allowed_at size generation new k n) there
            ∙ behind_written (fits generation (place_of k at) (word_of new k at))
            (is_written (word_of new k at)) (slots_before size k at) (front (slots_of new)) fit
            behind
      ]
    ]
