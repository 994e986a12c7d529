-- What a batch notes of a word.
use Rattle.std.proofs.Common.{◌≡◌, inl, inr, ℕ, ◌+◌, ◌-◌, ◌<◌, ◌≤◌, ◌/◌, ◌%◌, ◌^◌, ◌⊎◌, Option, Some, None, List, length, take, get_or, set, refl, sym, subst, ap, ◌∙◌, arith}
use Rattle.std.proofs.lemmas.Bool.{cases_lt, lt-ltb}
use Rattle.std.specs.List.{insert}
use Rattle.std.specs.Prelude.{◌≢◌}
use Rattle.ee_codec.specs.Reading.{slot_of}
use Rattle.ee_codec.specs.Words.{IsAddress}
use Rattle.ee_flash.specs.Numbers.{IsSlotNumber}
use Rattle.ee_flash.specs.Runs.{IsShownBy, number_of}
use Rattle.ee_flash.specs.declared.word.Word.{Word}
use Rattle.ee_flash.specs.declared.word.Word.TheVariants.{Held}
use Rattle.ee_pages.specs.Nearest.{HasPlaces, IsOfAddress, IsPlace, IsRising, Named, last_named, named_by, noted_above, slot_names, with_named}
use Rattle.ee_pages.proofs.BatchLists.{names_by, says_by}
use Rattle.ee_pages.proofs.Readings.{names_by_number, names_nothing, slot_or_not}
use Rattle.ee_pages.proofs.Nearest.{place_is, put_among, put_over, rising_at, kept_full, kept_none, kept_unnamed, last-at_least, few_taken, rising-noted, rising-take}

module _ (room above span number : ℕ) (list : List Named) (rising : IsRising above list)
    (few : length list ≤ room) (places : HasPlaces room above span list) where
  behind : (name : Named) → slot_names (slot_of (Held number)) ≡ Some name
      → (number % 2 ^ 16 ≤ above) ⊎ (above + span < number % 2 ^ 16)
      → (number % 2 ^ 16 ≤ above)
      ⊎ ((length list ≡ room) × (last_named above list < number % 2 ^ 16))
  behind name names (inl low) = inl low
  behind name names (inr high) = elim (cases_lt (length list) room) [
    | inl less ↦ absurd
        (omega (arith, high, places.free less, (names_by number name names).proper.1))
    | inr all ↦
        let full : length list ≡ room = omega (arith, all, few) in
        inr (full, omega (arith, high, places.full full))
  ]

  kept_by : (named : Option Named) → slot_names (slot_of (Held number)) ≡ named
      → (number % 2 ^ 16 ≤ above) ⊎ (above + span < number % 2 ^ 16)
      → list ≡ take room (noted_above above (slot_names (slot_of (Held number))) list)
  kept_by None none out = kept_none room above (slot_names (slot_of (Held number))) list few none
  kept_by (Some name) names out =
      kept_unnamed room above (number % 2 ^ 16) (slot_names (slot_of (Held number))) list rising few
      (λ other is. (names_by number other is).address) (behind name names out)

  -- an address with no place
  pub kept_away : (number % 2 ^ 16 ≤ above) ⊎ (above + span < number % 2 ^ 16)
      → list ≡ take room (noted_above above (slot_names (slot_of (Held number))) list)
  kept_away = kept_by (slot_names (slot_of (Held number))) refl

  unsaid_by : (named : Option Named) → slot_names (slot_of (Held number)) ≡ named
      → 2 ≤ number / 2 ^ 16 % 2 ^ 16
      → list ≡ take room (noted_above above (slot_names (slot_of (Held number))) list)
  unsaid_by None none more = kept_none room above (slot_names (slot_of (Held number))) list few none
  unsaid_by (Some name) names more = absurd (omega (arith, more, (names_by number name names).kind))

  -- a number of no kind
  pub kept_unsaid : 2 ≤ number / 2 ^ 16 % 2 ^ 16
      → list ≡ take room (noted_above above (slot_names (slot_of (Held number))) list)
  kept_unsaid = unsaid_by (slot_names (slot_of (Held number))) refl

  -- an address with a place
  pub is_proper : above < number % 2 ^ 16 → number % 2 ^ 16 ≤ above + span → IsOfAddress number
  is_proper high low = (omega (arith, high), omega (arith, low, places.proper))

  pub noted_by : above < number % 2 ^ 16 → number % 2 ^ 16 ≤ above + span
      → number / 2 ^ 16 % 2 ^ 16 < 2
      → take room (with_named (named_by number) list)
      ≡ take room (noted_above above (slot_names (slot_of (Held number))) list)
  noted_by high low kind =
      sym
      (ap (λ (named : Option Named). take room (noted_above above named list))
      (says_by number (is_proper high low) kind)
      ∙ rw (lt-ltb above (number % 2 ^ 16) high) refl)

  -- of whichever kind
  pub noted_either : (after : List Named) → above < number % 2 ^ 16 → number % 2 ^ 16 ≤ above + span
      → (number / 2 ^ 16 % 2 ^ 16 < 2 → after ≡ take room (with_named (named_by number) list))
      → (2 ≤ number / 2 ^ 16 % 2 ^ 16 → after ≡ list)
      → after ≡ take room (noted_above above (slot_names (slot_of (Held number))) list)
  noted_either after high low noted unsaid = elim (cases_lt (number / 2 ^ 16 % 2 ^ 16) 2) [
    | inl kind ↦ noted kind ∙ noted_by high low kind
    | inr none ↦ unsaid none ∙ kept_unsaid none
  ]

-- the same of a word, by its reading
module _ (room above span : ℕ) (list : List Named) (rising : IsRising above list)
    (few : length list ≤ room) (places : HasPlaces room above span list) (word : Word) where
  -- one that is no slot's
  word_of_none : (IsSlotNumber (number_of word) → ⊥)
      → list ≡ take room (noted_above above (slot_names (slot_of word)) list)
  word_of_none none =
      kept_none room above (slot_names (slot_of word)) list few (names_nothing word none)

  by_number : (after : List Named)
      → after ≡ take room (noted_above above (slot_names (slot_of (Held (number_of word)))) list)
      → after ≡ take room (noted_above above (slot_names (slot_of word)) list)
  by_number after noted =
      noted
      ∙ ap (λ (named : Option Named). take room (noted_above above named list))
      (names_by_number word)

  -- an address with no place
  pub word_kept_away : (reading : ℕ) → IsShownBy word reading
      → (reading % 2 ^ 16 ≤ above) ⊎ (above + span < reading % 2 ^ 16)
      → list ≡ take room (noted_above above (slot_names (slot_of word)) list)
  word_kept_away reading shown away = elim (slot_or_not (number_of word)) [
    | inl none ↦ word_of_none none
    | inr slot ↦
        by_number list
        (kept_away room above span (number_of word) list rising few places
        (subst (λ n. (n ≤ above) ⊎ (above + span < n)) (shown.address slot) away))
  ]

  -- another address than that of the reading
  pub word_of_other : (reading number : ℕ) → IsShownBy word reading → number ≡ number_of word
      → number % 2 ^ 16 ≢ reading % 2 ^ 16
      → list ≡ take room (noted_above above (slot_names (slot_of word)) list)
  word_of_other reading number shown is other = elim (slot_or_not (number_of word)) [
    | inl none ↦ word_of_none none
    | inr slot ↦ absurd (other (ap (λ n. n % 2 ^ 16) is ∙ sym (shown.address slot)))
  ]

  -- an address with a place
  pub word_noted : (number : ℕ) (after : List Named) → number ≡ number_of word
      → above < number % 2 ^ 16 → number % 2 ^ 16 ≤ above + span
      → (number / 2 ^ 16 % 2 ^ 16 < 2 → after ≡ take room (with_named (named_by number) list))
      → (2 ≤ number / 2 ^ 16 % 2 ^ 16 → after ≡ list)
      → after ≡ take room (noted_above above (slot_names (slot_of word)) list)
  word_noted number after is high low noted unsaid =
      by_number after
      (subst
      (λ (n : ℕ). after ≡ take room (noted_above above (slot_names (slot_of (Held n))) list)) is
      (noted_either room above span number list rising few places after high low noted unsaid))

-- what is noted of it rises, and has room
module _ (room above number : ℕ) (list after : List Named) (rising : IsRising above list)
    (few : length list ≤ room) (high : above < number % 2 ^ 16)
    (noted : number / 2 ^ 16 % 2 ^ 16 < 2 → after ≡ take room (with_named (named_by number) list))
    (unsaid : 2 ≤ number / 2 ^ 16 % 2 ^ 16 → after ≡ list) where
  pub still_rising : IsRising above after
  still_rising = elim (cases_lt (number / 2 ^ 16 % 2 ^ 16) 2) [
    | inl kind ↦
        subst (IsRising above) (sym (noted kind))
        (rising-take room above (with_named (named_by number) list)
        (rising-noted above (named_by number) list rising high))
    | inr none ↦ subst (IsRising above) (sym (unsaid none)) rising
  ]

  pub still_few : length after ≤ room
  still_few = elim (cases_lt (number / 2 ^ 16 % 2 ^ 16) 2) [
    | inl kind ↦ few_taken room (with_named (named_by number) list) after (noted kind)
    | inr none ↦ subst (λ (list : List Named). length list ≤ room) (sym (unsaid none)) few
  ]

-- ---- the addresses that have a place

module _ (room above greatest : ℕ) (list : List Named) (low : above < 65535)
    (rising : IsRising above list) (few : length list ≤ room)
    (free : length list < room → greatest ≡ 65534)
    (full : length list ≡ room → greatest ≡ last_named above list)
    (proper : IsAddress greatest) where
  pub above_greatest : above ≤ greatest
  above_greatest = elim (cases_lt (length list) room) [
    | inl less ↦ omega (arith, free less, low)
    | inr all ↦
        let same : length list ≡ room = omega (arith, all, few) in
        omega (arith, full same, last-at_least above list rising)
  ]

  pub places_by : (span : ℕ) → span ≡ greatest - above → HasPlaces room above span list
  places_by span is =
      let sum : above + span ≡ greatest = omega (arith, is, above_greatest) in
      record {
        free = λ h. sum ∙ free h;
        full = λ h. sum ∙ full h;
        proper = omega (arith, sum, proper.1);
      }

-- ---- in a batch of so many

-- an address behind the last, where there is no room
pub kept_last : (room : ℕ) (list : List Named) (new : Named) (place : ℕ) → length list ≤ room
    → IsPlace new.0 list place → place ≤ length list → room ≤ place → 0 < new.0
    → list ≡ take room (with_named new list)
kept_last room list new place few at within full some =
    kept_full room 0 new list place few some at within full ∙ rw (lt-ltb 0 new.0 some) refl

-- an address that has been noted, or hasn't, behind those that are no greater
module _ (room above : ℕ) (list : List Named) (new : Named) (through : ℕ)
    (rising : IsRising above list) (few : length list ≤ room) (within : through ≤ length list)
    (up_to : 0 < through → (get_or list (through - 1) (0, None)).0 ≤ new.0)
    (behind : through < length list → new.0 < (get_or list through (0, None)).0) where
  pub noted_anew : 0 < through → (get_or list (through - 1) (0, None)).0 ≡ new.0
      → set list (through - 1) new ≡ take room (with_named new list)
  noted_anew some same =
      let place = through - 1 in
      let inside : place < length list = omega (arith, some, within) in
      put_over room list new place (0, None)
      (place_is list above new.0 place (0, None) rising (omega (arith, inside))
      (λ h. omega (arith, same))
      (λ more. omega (arith, rising_at list above place (0, None) rising more inside, same)))
      inside same few

  place_of : (0 < through → (get_or list (through - 1) (0, None)).0 ≢ new.0)
      → IsPlace new.0 list through
  place_of other =
      place_is list above new.0 through (0, None) rising within (λ h. omega (arith, behind h))
      (λ some. omega (arith, up_to some, other some))

  pub noted_first : (0 < through → (get_or list (through - 1) (0, None)).0 ≢ new.0)
      → take room (insert list through new) ≡ take room (with_named new list)
  noted_first other =
      put_among room list new through (0, None) (place_of other) within
      (λ h e. omega (arith, behind h, e))

  pub noted_nowhere : (0 < through → (get_or list (through - 1) (0, None)).0 ≢ new.0)
      → room ≤ through → 0 < new.0 → list ≡ take room (with_named new list)
  noted_nowhere other full some =
      kept_last room list new through few (place_of other) within full some
