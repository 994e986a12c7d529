-- What the readings of a run say of its words.
use Rattle.std.proofs.Common.{◌≡◌, inl, inr, ℕ, ◌+◌, ◌-◌, ◌<◌, ◌≤◌, true, false, List, [], length, take, drop, get_or, refl, sym, subst, ap, ◌∙◌, arith}
use Rattle.std.proofs.lemmas.Bool.{cases_lt, true≢false}
use Rattle.std.proofs.lemmas.List.{get_or-drop, get_or-take, length-drop, length-take-le}
use Rattle.std.proofs.lemmas.List.Elements.{All-get_or}
use Rattle.std.specs.List.{All}
use Rattle.std.specs.Prelude.{◌≢◌}
use Rattle.ee_codec.specs.Reading.{slot_of}
use Rattle.ee_flash.specs.Device.{Device, IsBelowAllOnes, IsFormed, all_ones, page_at, word_at}
use Rattle.ee_flash.specs.Runs.{AreReadings, IsShownBy, words_from}
use Rattle.ee_flash.specs.Size.{page_count}
use Rattle.ee_flash.specs.declared.word.Word.{Word}
use Rattle.ee_flash.specs.declared.word.Word.TheVariants.{Erased, Held, Torn}
use Rattle.ee_flash.proofs.Public.{length-page_at}
use Rattle.ee_pages.specs.Legal.{holds_slot, is_element}
use Rattle.ee_pages.specs.Page.{is_torn, is_written}

-- ---- a word

torn_holds : (word : Word) → is_torn word ≡ true → holds_slot word ≡ true
torn_holds Erased h = absurd (true≢false (sym h))
torn_holds Torn h = refl
torn_holds (Held number) h = absurd (true≢false (sym h))

-- a torn word is used, behind others that are
pub torn_on : (device : Device) (page from at : ℕ)
    → ((j : ℕ) → from ≤ j → j < at → holds_slot (word_at device page j) ≡ true)
    → is_torn (word_at device page at) ≡ true → (j : ℕ) → from ≤ j → j < at + 1
    → holds_slot (word_at device page j) ≡ true
torn_on device page from at before torn j low high = elim (cases_lt j at) [
  | inl less ↦ before j low less
  | inr more ↦
      let same : at ≡ j = omega arith in
      subst (λ n. holds_slot (word_at device page n) ≡ true) same
      (torn_holds (word_at device page at) torn)
]

none_by : (word : Word) → is_element (slot_of word) ≡ false → is_torn word ≡ false
    → holds_slot word ≡ false
none_by Erased none whole = refl
none_by Torn none whole = absurd (true≢false whole)
none_by (Held number) none whole = none

written_unless : (word : Word) → (word ≡ Erased → ⊥) → is_written word ≡ true
written_unless Erased other = absurd (other refl)
written_unless Torn other = refl
written_unless (Held number) other = refl

-- ---- the words of a run

-- the word of a place
pub word_there : (device : Device) (page at count k : ℕ) → k < count
    → get_or (words_from device page at count) k Erased ≡ word_at device page (at + k)
word_there device page at count k h =
    get_or-take count (drop at (page_at device page)) k Erased h
    ∙ get_or-drop at (page_at device page) k Erased

-- a run has as many readings as were asked for
pub whole_reads : (reads : Word → ℕ → Type 0) (device : Device) (page at count room : ℕ)
    (readings : List ℕ) → IsFormed device → page < page_count device.size
    → at + count ≤ device.size.words → room ≡ count
    → AreReadings reads (words_from device page at room) readings
    → (length readings ≡ count)
    × AreReadings reads (words_from device page at (length readings)) readings
whole_reads reads device page at count room readings formed in_range within all are =
    let words = page_at device page in
    let long = length-page_at device page formed in_range in
    let as_long : length (take count (drop at words)) ≡ count =
    length-take-le count (drop at words) (simp length-drop (omega (arith, long, within))) in
    let same = subst (λ n. AreReadings reads (words_from device page at n) readings) all are in
    let whole : length readings ≡ count = same.as_many ∙ as_long in
    (whole, subst (λ n. AreReadings reads (words_from device page at n) readings) (sym whole) same)

module _ (reads : Word → ℕ → Type 0) (device : Device) (page at : ℕ) (readings : List ℕ)
    (are : AreReadings reads (words_from device page at (length readings)) readings) where
  pub reading_at : (k : ℕ) → k < length readings
      → reads (word_at device page (at + k)) (get_or readings k 0)
  reading_at k h =
      subst (λ (word : Word). reads word (get_or readings k 0))
      (word_there device page at (length readings) k h)
      (are.each k (omega (arith, h, are.as_many)))

-- the word of a place
there : (at j : ℕ) → at ≤ j → at + (j - at) ≡ j
there at j h = omega arith

-- behind others that are used, so many words that are each a slot that is used
pub slots_on : (device : Device) (page at from slots count : ℕ)
    → ((j : ℕ) → from ≤ j → j < at → holds_slot (word_at device page j) ≡ true) → slots ≤ count
    → ((k : ℕ) → k < slots
    → holds_slot (get_or (words_from device page at count) k Erased) ≡ true)
    → (j : ℕ) → from ≤ j → j < at + slots → holds_slot (word_at device page j) ≡ true
slots_on device page at from slots count before few each j low high = elim (cases_lt j at) [
  | inl less ↦ before j low less
  | inr more ↦
      let place : j - at < slots = omega arith in
      subst (λ n. holds_slot (word_at device page n) ≡ true) (there at j more)
      (ap holds_slot
      (sym (word_there device page at count (j - at) (omega (arith, place, few))))
      ∙ each (j - at) place)
]

-- and the next is none, unless it is torn
pub slots_end : (device : Device) (page at slots count : ℕ) → slots < count
    → is_element (slot_of (get_or (words_from device page at count) slots Erased)) ≡ false
    → is_torn (word_at device page (at + slots)) ≡ false
    → holds_slot (word_at device page (at + slots)) ≡ false
slots_end device page at slots count h none whole =
    none_by (word_at device page (at + slots))
    (ap (λ (word : Word). is_element (slot_of word))
    (sym (word_there device page at count slots h)) ∙ none)
    whole

module _ (reads : Word → ℕ → Type 0)
    (shown : (word : Word) (reading : ℕ) → reads word reading → IsShownBy word reading)
    (device : Device) (page at : ℕ) (readings : List ℕ) (formed : IsFormed device)
    (in_range : page < page_count device.size) (within : at + length readings ≤ device.size.words)
    (are : AreReadings reads (words_from device page at (length readings)) readings) where
  below_all : (j : ℕ) → j < device.size.words → IsBelowAllOnes (word_at device page j)
  below_all j h =
      let long = length-page_at device page formed in_range in
      All-get_or IsBelowAllOnes (page_at device page) j Erased (omega (arith, long, h))
      (All-get_or (All IsBelowAllOnes) device.image page []
      (omega (arith, in_range, formed.image_length)) formed.below_all_ones)

  shown_at : (k : ℕ) → k < length readings
      → IsShownBy (word_at device page (at + k)) (get_or readings k 0)
  shown_at k h =
      shown (word_at device page (at + k)) (get_or readings k 0)
      (reading_at reads device page at readings are k h)

  -- behind others that are erased, those of its first readings are
  pub erased_on : (from erased : ℕ)
      → ((j : ℕ) → from ≤ j → j < at → is_written (word_at device page j) ≡ false)
      → erased ≤ length readings → ((k : ℕ) → k < erased → get_or readings k 0 ≡ all_ones)
      → (j : ℕ) → from ≤ j → j < at + erased → is_written (word_at device page j) ≡ false
  erased_on from erased before few each j low high = elim (cases_lt j at) [
    | inl less ↦ before j low less
    | inr more ↦
        let place : j - at < erased = omega arith in
        let inside : j - at < length readings = omega (arith, place, few) in
        subst (λ n. is_written (word_at device page n) ≡ false) (there at j more)
        (ap is_written
        ((shown_at (j - at) inside).only_erased (each (j - at) place)
        (below_all (at + (j - at)) (omega (arith, inside, within)))))
  ]

  -- and the next is not
  pub erased_end : (erased : ℕ) → erased < length readings → get_or readings erased 0 ≢ all_ones
      → is_written (word_at device page (at + erased)) ≡ true
  erased_end erased h other =
      written_unless (word_at device page (at + erased))
      (λ is. other ((shown_at erased h).erased is))
