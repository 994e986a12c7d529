-- Words that are looked for: a device has none, or one first.
use Rattle.std.proofs.Common.{◌≡◌, inl, inr, refl, sym, ap, ◌∙◌, subst, false, ℕ, ◌+◌, ◌<◌, ◌≤◌, List, [], length, get_or, arith, rules}
use Rattle.std.proofs.lemmas.Bool.{cases_Bool, cases_lt, true≢false}
use Rattle.std.proofs.lemmas.List.{get_or_past}
use Rattle.ee_flash.specs.Device.{Device, IsFormed, page_at, word_at}
use Rattle.ee_flash.proofs.Public.{length-page_at}
use Rattle.ee_flash.specs.Size.{page_count}
use Rattle.ee_flash.specs.declared.word.Word.{Word}
use Rattle.ee_flash.specs.declared.word.Word.TheVariants.{Erased}
use Rattle.ee_shell.specs.Dumps.Places.{HasNoneIn, IsFirstSought, IsSoughtIn, is_sought}
use Rattle.ee_shell.specs.declared.dumps.places.Sought.{Sought}
use Rattle.ee_shell.specs.declared.dumps.places.Sought.TheVariants.{Misplaced, Uncoded}

erased_is_none : (sought : Sought) (at : ℕ) → is_sought sought at Erased ≡ false
erased_is_none Misplaced at = search (rules, cases_Bool)
erased_is_none Uncoded at = refl

-- where none below a place is one, nor this, none below the next is
pub place_more : (sought : Sought) (device : Device) (page at : ℕ)
    → ((k : ℕ) → k < at → is_sought sought k (word_at device page k) ≡ false)
    → is_sought sought at (word_at device page at) ≡ false → (k : ℕ) → k < at + 1
    → is_sought sought k (word_at device page k) ≡ false
place_more sought device page at before here k less =
    elim (cases_lt k at) [
      | inl early ↦ before k early
      | inr late ↦ let same : at ≡ k = omega arith in
          subst (λ (n : ℕ). is_sought sought n (word_at device page n) ≡ false) same here
    ]

-- a page none of whose words is one
pub page_is_free : (sought : Sought) (device : Device) (page at : ℕ) → IsFormed device → page < page_count device.size
    → device.size.words ≤ at → ((k : ℕ) → k < at → is_sought sought k (word_at device page k) ≡ false)
    → HasNoneIn sought device page
page_is_free sought device page at formed in_range all before = λ k.
    elim (cases_lt k at) [
      | inl early ↦ before k early
      | inr late ↦ let past : length (page_at device page) ≤ k =
          omega (arith, length-page_at device page formed in_range, all, late) in
          ap (is_sought sought k) (get_or_past (page_at device page) k Erased past) ∙ erased_is_none sought k
    ]

pub page_more : (sought : Sought) (device : Device) (page : ℕ) → ((k : ℕ) → k < page → HasNoneIn sought device k)
    → HasNoneIn sought device page → (k : ℕ) → k < page + 1 → HasNoneIn sought device k
page_more sought device page before here k less =
    elim (cases_lt k page) [
      | inl early ↦ before k early
      | inr late ↦ let same : page ≡ k = omega arith in subst (HasNoneIn sought device) same here
    ]

pub all_free : (sought : Sought) (device : Device) (page : ℕ) → IsFormed device → page_count device.size ≤ page
    → ((k : ℕ) → k < page → HasNoneIn sought device k) → (k : ℕ) → HasNoneIn sought device k
all_free sought device page formed all before = λ k.
    elim (cases_lt k page) [
      | inl early ↦ before k early
      | inr late ↦ λ at.
          ap (is_sought sought at)
          (ap (λ (words : List Word). get_or words at Erased)
          (get_or_past device.image k [] (omega (arith, formed.image_length, all, late))))
          ∙ erased_is_none sought at
    ]

-- ---- one

not_before : (sought : Sought) (device : Device) (page at other place : ℕ) → IsFirstSought sought device page at
    → IsFirstSought sought device other place → page ≤ other
not_before sought device page at other place first second =
    elim (cases_lt other page) [
      | inl less ↦ absurd
          (true≢false (sym second.here.found ∙ first.pages_before other less place))
      | inr most ↦ most
    ]

place_not_before : (sought : Sought) (device : Device) (page at place : ℕ) → IsSoughtIn sought device page at
    → IsSoughtIn sought device page place → at ≤ place
place_not_before sought device page at place first second =
    elim (cases_lt place at) [
      | inl less ↦ absurd (true≢false (sym second.found ∙ first.none_before place less))
      | inr most ↦ most
    ]

pub one_sought : (sought : Sought) (device : Device) (page at other place : ℕ) → IsFirstSought sought device page at
    → IsFirstSought sought device other place → (other ≡ page) × (place ≡ at)
one_sought sought device page at other place first second =
    let same : other ≡ page =
    omega (
      arith,
      not_before sought device page at other place first second,
      not_before sought device other place page at second first,
    ) in
    let here : IsSoughtIn sought device page place =
    subst (λ (p : ℕ). IsSoughtIn sought device p place) same second.here in (
      same,
      omega (
        arith,
        place_not_before sought device page at place first.here here,
        place_not_before sought device page place at here first.here,
      ),
    )

-- a device without one has no first
pub none_sought : (sought : Sought) (device : Device) (page at : ℕ) → ((k : ℕ) → HasNoneIn sought device k)
    → IsFirstSought sought device page at → ⊥
none_sought sought device page at sound first =
    true≢false (sym first.here.found ∙ sound page at)
