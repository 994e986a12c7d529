-- Torn words: a device has none, or a first one.
use Rattle.std.proofs.Common.{rules, ◌≡◌, ◌≢◌, ◌⊎◌, ℕ, zero, suc, ◌+◌, ◌<◌, ◌≤◌, List, [], ◌∷◌, ◌++◌, length, get_or, refl, sym, subst, arith, inl, inr, length-append}
use Rattle.std.specs.List.{All, flat_map}
use Rattle.std.proofs.lemmas.Bool.{cases_lt}
use Rattle.std.proofs.lemmas.List.{get_or-append-add, get_or_append_left, get_or_past}
use Rattle.std.proofs.lemmas.List.Elements.{All-append, All-from_get_or, All-nil}
use Rattle.ee_flash.specs.Device.{Device, word_at}
use Rattle.ee_flash.specs.declared.word.Word.{Word}
use Rattle.ee_flash.specs.declared.word.Word.TheVariants.{Erased, Held, Torn}
use Rattle.ee_shell.specs.Dumps.Dump.{IsDump, IsFirstTorn, IsWholePage, device_words}
use Rattle.ee_interface.specs.declared.command_line.form.Form.{Form}
use Rattle.ee_shell.proofs.DumpsLemmas.Words.{erased_whole, held_whole}

-- ---- none

module _ (P : Word → Type 0) (blank : P Erased) where
  all_of : (pages : List (List Word))
      → ((page at : ℕ) → P (get_or (get_or pages page []) at Erased))
      → All P (flat_map (λ page. page) pages)
  all_of [] each = All-nil P
  all_of (page ∷ pages) each =
      All-append P page (flat_map (λ words. words) pages)
      (All-from_get_or P page Erased (λ i within. each 0 i))
      (all_of pages (λ k at. each (suc k) at))

  front_of : (words more : List Word) → All P (words ++ more) → All P words
  front_of words more each = λ k none within.
      subst P (get_or_append_left words more none k within)
      (each k none (omega (arith, length-append words more)))

  back_of : (words more : List Word) → All P (words ++ more) → All P more
  back_of words more each = λ k none within.
      subst P (get_or-append-add words more k none)
      (each (length words + k) none (omega (arith, length-append words more)))

  each_of : (words : List Word) → All P words → (at : ℕ) → P (get_or words at Erased)
  each_of words each at = elim (cases_lt at (length words)) [
    | inl within ↦ each at Erased within
    | inr past ↦ subst P (sym (get_or_past words at Erased past)) blank
  ]

  there_of : (pages : List (List Word)) → All P (flat_map (λ page. page) pages)
      → (page at : ℕ) → P (get_or (get_or pages page []) at Erased)
  there_of [] each page at = blank
  there_of (words ∷ pages) each zero at =
      each_of words (front_of words (flat_map (λ page. page) pages) each) at
  there_of (words ∷ pages) each (suc page) at =
      there_of pages (back_of words (flat_map (λ page. page) pages) each) page at

  -- what holds of each word of a device, holds of all its words
  pub in_words : (device : Device) → ((page at : ℕ) → P (word_at device page at))
      → All P (device_words device)
  in_words device each = all_of device.image each

  -- and back
  pub in_pages : (device : Device) → All P (device_words device) → (page at : ℕ)
      → P (word_at device page at)
  in_pages device each page at = there_of device.image each page at

-- the words of a device without a torn one
pub whole_words : (device : Device) → ((page : ℕ) → IsWholePage device page)
    → All (λ word. word ≢ Torn) (device_words device)
whole_words device whole = in_words (λ word. word ≢ Torn) erased_whole device whole

-- and back
pub whole_pages : (device : Device) → All (λ word. word ≢ Torn) (device_words device) → (page : ℕ)
    → IsWholePage device page
whole_pages device each page = in_pages (λ word. word ≢ Torn) erased_whole device each page

-- ---- the first of a page

-- the place of the first torn word of a row
abbrev FirstOf : List Word → ℕ → Type 0
FirstOf words at =
    (get_or words at Erased ≡ Torn) × ((k : ℕ) → k < at → get_or words k Erased ≢ Torn)

before_later : (word : Word) (words : List Word) (at : ℕ) → word ≢ Torn
    → ((k : ℕ) → k < at → get_or words k Erased ≢ Torn) → (k : ℕ) → k < suc at
    → get_or (word ∷ words) k Erased ≢ Torn
before_later word words at sound before zero less = sound
before_later word words at sound before (suc k) less = before k (omega arith)

none_later : (word : Word) (words : List Word) → word ≢ Torn
    → ((k : ℕ) → get_or words k Erased ≢ Torn) → (k : ℕ) → get_or (word ∷ words) k Erased ≢ Torn
none_later word words sound none zero = sound
none_later word words sound none (suc k) = none k

first_later : (word : Word) (words : List Word) → word ≢ Torn
    → ((at : ℕ) × FirstOf words at) ⊎ ((k : ℕ) → get_or words k Erased ≢ Torn)
    → ((at : ℕ) × FirstOf (word ∷ words) at) ⊎ ((k : ℕ) → get_or (word ∷ words) k Erased ≢ Torn)
first_later word words sound (inl found) =
    inl (suc found.0, (found.1.0, before_later word words found.0 sound found.1.1))
first_later word words sound (inr none) = inr (none_later word words sound none)

first_of : (words : List Word)
    → ((at : ℕ) × FirstOf words at) ⊎ ((k : ℕ) → get_or words k Erased ≢ Torn)
first_of [] = inr (λ k. erased_whole)
first_of (Torn ∷ words) = inl (0, (refl, λ k less. absurd (omega arith)))
first_of (Erased ∷ words) = first_later Erased words erased_whole (first_of words)
first_of (Held value ∷ words) = first_later (Held value) words (held_whole value) (first_of words)

-- ---- the first of all

-- every word of these pages is whole
abbrev Whole : List (List Word) → ℕ → Type 0
Whole pages page = (at : ℕ) → get_or (get_or pages page []) at Erased ≢ Torn

record FirstIn (pages : List (List Word)) : Type 0 where
  page : ℕ
  at : ℕ
  torn : get_or (get_or pages page []) at Erased ≡ Torn
  whole_before : (k : ℕ) → k < page → Whole pages k
  none_before : (k : ℕ) → k < at → get_or (get_or pages page []) k Erased ≢ Torn

whole_later : (words : List Word) (pages : List (List Word)) (page : ℕ)
    → ((k : ℕ) → get_or words k Erased ≢ Torn) → ((k : ℕ) → k < page → Whole pages k) → (k : ℕ)
    → k < suc page → Whole (words ∷ pages) k
whole_later words pages page none before zero less = none
whole_later words pages page none before (suc k) less = before k (omega arith)

all_later : (words : List Word) (pages : List (List Word))
    → ((k : ℕ) → get_or words k Erased ≢ Torn) → ((k : ℕ) → Whole pages k) → (k : ℕ)
    → Whole (words ∷ pages) k
all_later words pages none each zero = none
all_later words pages none each (suc k) = each k

page_later : (words : List Word) (pages : List (List Word))
    → ((k : ℕ) → get_or words k Erased ≢ Torn) → FirstIn pages ⊎ ((k : ℕ) → Whole pages k)
    → FirstIn (words ∷ pages) ⊎ ((k : ℕ) → Whole (words ∷ pages) k)
page_later words pages none (inl first) = inl record {
  page = suc first.page;
  at = first.at;
  torn = first.torn;
  whole_before = whole_later words pages first.page none first.whole_before;
  none_before = first.none_before;
}
page_later words pages none (inr each) = inr (all_later words pages none each)

first_in : (pages : List (List Word)) → FirstIn pages ⊎ ((k : ℕ) → Whole pages k)
first_in [] = inr (λ k at. erased_whole)
first_in (words ∷ pages) =
    elim (first_of words) [
      | inl found ↦ inl record {
        page = 0;
        at = found.0;
        torn = found.1.0;
        whole_before = λ k less. absurd (omega arith);
        none_before = found.1.1;
      }
      | inr none ↦ page_later words pages none (first_in pages)
    ]

pub first_or_whole : (device : Device)
    → ((page : ℕ) × (at : ℕ) × IsFirstTorn device page at) ⊎ ((page : ℕ) → IsWholePage device page)
first_or_whole device =
    elim (first_in device.image) [
      | inl first ↦ inl (
        first.page,
        first.at,
        record {
          torn = first.torn;
          whole_before = first.whole_before;
          none_before = first.none_before;
        },
      )
      | inr whole ↦ inr whole
    ]

-- ---- one

-- a torn word stands not before the first
not_before : (device : Device) (page at other place : ℕ) → IsFirstTorn device page at
    → IsFirstTorn device other place → page ≤ other
not_before device page at other place first second =
    elim (cases_lt other page) [
      | inl less ↦ absurd (first.whole_before other less place second.torn)
      | inr most ↦ most
    ]

place_not_before : (device : Device) (page at place : ℕ) → IsFirstTorn device page at
    → IsFirstTorn device page place → at ≤ place
place_not_before device page at place first second =
    elim (cases_lt place at) [
      | inl less ↦ absurd (first.none_before place less second.torn)
      | inr most ↦ most
    ]

pub one_first : (device : Device) (page at other place : ℕ) → IsFirstTorn device page at
    → IsFirstTorn device other place → (other ≡ page) × (place ≡ at)
one_first device page at other place first second =
    search (rules, page, not_before, at, place_not_before)

-- a dump has none
pub no_torn : (form : Form) (device : Device) (dump : List ℕ) (page at : ℕ)
    → IsDump form device dump → IsFirstTorn device page at → ⊥
no_torn form device dump page at is first = is.whole page at first.torn
