-- Numbers of a store as coded words, and what a cut leaves of them.
use Rattle.std.proofs.Common.{◌≡◌, ◌≢◌, ◌⊎◌, inl, inr, ℕ, ◌+◌, ◌*◌, ◌/◌, ◌%◌, ◌^◌, ◌<◌, ◌≤◌, Option, Some, None, refl, sym, ap, ◌∙◌, subst, arith}
use Rattle.std.specs.Prelude.{bit_and, count_ones}
use Rattle.std.specs.Int.Bits.{and_self}
use Rattle.std.specs.Int.Count.{ones-ones}
use Rattle.std.proofs.lemmas.Bool.{cases_eq, eq-eqb, ne_eqb}
use Rattle.std.proofs.lemmas.Nat.{and_assoc, and_comm, and_mask}
use Rattle.ee_flash.specs.Device.{all_ones}
use Rattle.ee_flash.specs.Numbers.{IsSlotNumber, IsStoreNumber, header_half}
use Rattle.ee_flash.specs.Size.{IsWithinLimits, Size}
use Rattle.ee_flash.specs.declared.word.Word.{Word}
use Rattle.ee_flash.specs.declared.word.Word.TheVariants.{Erased, Held, Torn}
use Rattle.ee_nor.specs.Coded.Clear.{number_cases}
use Rattle.ee_nor.specs.Coded.Code.{HasOnes, IsPayload, codeword, decoded, payload_in}
use Rattle.ee_nor.specs.Coded.Coded.{IsOverCoded, coded_number, coded_word, held_payload, mark_payload, number_of_payload, payload_of_number, word_of_ecc, word_read}
use Rattle.ee_nor.specs.Coded.EccNor.{EccNumber, IsReadingOf}
use Rattle.ee_nor.specs.Coded.Formed.{coded_cases}
use Rattle.ee_nor.specs.Coded.Laws.{IsTold}
use Rattle.ee_nor.proofs.CodedLemmas.Near.{coded_fits, coded_ones, decoded_again, erased_as_none, erased_payload, torn_payload}

-- ---- a number and its payload

pub mark_is : (size : Size)
    → payload_of_number size (header_half * 2 ^ 32 + header_half) ≡ mark_payload size
unfolding payload_of_number
mark_is size = refl

pub payload_fits : (size : Size) (number : ℕ) → IsWithinLimits size → number ≤ all_ones
    → IsPayload (payload_of_number size number)
payload_fits size number limits fits = elim (number_cases size number) [
  | inl slot ↦ let is = slot.2 in omega (arith, is)
  | inr (inl mark) ↦
      let is = mark.2 in omega (arith, is, limits.few_pages, limits.few_words)
  | inr (inr header) ↦ let is = header.1 in omega (arith, is)
]

slot_again : (number : ℕ) → number % 2 ^ 32 < 2 ^ 17 → 0 < number % 2 ^ 16
    → number_of_payload (number / 2 ^ 32 * 2 ^ 17 + number % 2 ^ 17) ≡ number
unfolding number_of_payload
slot_again number low some =
    let rest = (number / 2 ^ 32 * 2 ^ 17 + number % 2 ^ 17) % 2 ^ 17 in
    let apart = ne_eqb rest 0 (λ none. omega (arith, none, some)) in
    let no_mark = ne_eqb rest (2 ^ 16) (λ mark. omega (arith, mark, some)) in
    rw (apart, no_mark) (omega (arith, low))

pub mark_again : (size : Size) (number : ℕ) → number / 2 ^ 32 ≡ header_half
    → number % 2 ^ 32 ≡ header_half → number_of_payload (mark_payload size) ≡ number
unfolding number_of_payload
mark_again size number half low =
    let apart = ne_eqb (mark_payload size % 2 ^ 17) 0 (λ none. omega (arith, none)) in
    let is = eq-eqb (mark_payload size % 2 ^ 17) (2 ^ 16) (omega arith) in
    rw (apart, is) (omega (arith, half, low))

header_again : (number : ℕ) → number / 2 ^ 32 ≡ header_half
    → number_of_payload (number % 2 ^ 32 * 2 ^ 17) ≡ number
unfolding number_of_payload
header_again number half =
    let none = eq-eqb (number % 2 ^ 32 * 2 ^ 17 % 2 ^ 17) 0 (omega arith) in
    rw none (omega (arith, half))

half : (number : ℕ) → IsStoreNumber number → (IsSlotNumber number → ⊥)
    → number / 2 ^ 32 ≡ header_half
half number (inl slot) none = absurd (none slot)
half number (inr is) none = is

pub number_again : (size : Size) (number : ℕ) → IsStoreNumber number
    → number_of_payload (payload_of_number size number) ≡ number
number_again size number store = elim (number_cases size number) [
  | inl slot ↦ ap number_of_payload slot.2 ∙ slot_again number slot.0 slot.1
  | inr (inl mark) ↦
      ap number_of_payload mark.2 ∙ mark_again size number (half number store mark.0) mark.1
  | inr (inr header) ↦
      ap number_of_payload header.1 ∙ header_again number (half number store header.0)
]

-- ---- coded words

pub coded_below : (payload : ℕ) → IsPayload payload → codeword payload < all_ones
coded_below payload bare =
    let fits = coded_fits payload bare in
    let apart : codeword payload ≢ all_ones =
    λ same. omega (arith, coded_ones payload bare, ap count_ones same, ones-ones 64) in
    omega (arith, fits, apart)

pub own_payload : (size : Size) (payload number : ℕ) → payload ≡ payload_of_number size number
    → number_of_payload payload ≡ number → held_payload size (Some payload) ≡ Held number
own_payload size payload number is back =
    let own = is ∙ ap (payload_of_number size) (sym back) in
    rw (eq-eqb payload (payload_of_number size (number_of_payload payload)) own) (ap Held back)

pub reads_back : (size : Size) (number : ℕ) → IsWithinLimits size → number ≤ all_ones
    → IsStoreNumber number → coded_word size (coded_number size number) ≡ Held number
reads_back size number limits fits store =
    let payload = payload_of_number size number in
    let bare = payload_fits size number limits fits in
    let below = coded_below payload bare in
    rw (ne_eqb (codeword payload) all_ones (λ same. omega (arith, below, same)))
    (ap (held_payload size) (decoded_again payload bare)
    ∙ own_payload size payload number refl (number_again size number store))

-- ---- what a cut leaves

read_payload : (read : ℕ) → read ≡ codeword (payload_in read)
    → decoded read ≡ Some (payload_in read)
read_payload read is = rw (eq-eqb read (codeword (payload_in read)) is) refl

-- of a word that was cut on its way to a number
pub program_cut : (size : Size) (number cells : ℕ) (reading : Option ℕ) → IsWithinLimits size
    → number ≤ all_ones → IsStoreNumber number → cells ≤ all_ones
    → ((read : ℕ) → reading ≡ Some read → IsReadingOf cells read)
    → HasOnes cells (coded_number size number)
    → (word_read size reading ≡ Erased)
    ⊎ ((word_read size reading ≡ Held number) ⊎ (word_read size reading ≡ Torn))
program_cut size number cells None limits fits store cells_fit reads has = inr (inr refl)
program_cut size number cells (Some read) limits fits store cells_fit reads has =
    elim (coded_cases size read) [
      | inl erased ↦ inl erased.1
      | inr (inl held) ↦
          let reading = reads read refl in
          let read_fits = reading.fits in
          let same = torn_payload (payload_of_number size number) cells read (payload_in read)
          (payload_fits size number limits fits) (omega (arith, cells_fit)) has reading.near
          (omega (arith, read_fits)) (read_payload read held.1) in
          inr (inl (held.3 ∙ ap Held (ap number_of_payload same ∙ number_again size number store)))
      | inr (inr torn) ↦ inr (inr torn)
    ]

all_over : (number : ℕ) → number ≤ all_ones → bit_and all_ones number ≡ number
all_over number fits = and_comm all_ones number ∙ and_mask number 64 ∙ omega arith

-- what reads as coded after a cut erase had its ones there before
had_ones : (before cells read : ℕ) → before ≤ all_ones → cells ≤ all_ones → IsReadingOf cells read
    → IsOverCoded before → HasOnes cells before → read ≡ codeword (payload_in read)
    → HasOnes before read
had_ones before cells read fits cells_fit reading over has is =
    elim (cases_eq (bit_and before read) read) [
      | inl same ↦ same
      | inr other ↦
          let read_fits = reading.fits in
          let whole : before ≡ all_ones = over (λ payload bare bits.
          let same = erased_payload payload before cells read (payload_in read) bare
          (omega (arith, fits)) (omega (arith, cells_fit)) bits has reading.near
          (omega (arith, read_fits)) (read_payload read is) in
          other (subst (λ (number : ℕ). bit_and before number ≡ number)
          (sym (is ∙ ap codeword same)) bits)) in
          absurd (other (ap (λ (number : ℕ). bit_and number read) whole ∙ all_over read read_fits))
    ]

-- of a word whose page was cut in its erase
pub erase_cut : (size : Size) (old : EccNumber) (cells : ℕ) (reading : Option ℕ) → old.cells ≤ all_ones
    → cells ≤ all_ones → ((read : ℕ) → reading ≡ Some read → IsReadingOf cells read)
    → IsOverCoded old.cells → HasOnes cells old.cells
    → ((read : ℕ) → read ≢ all_ones → reading ≡ Some read → HasOnes old.cells read
    → old.reading ≡ Some read)
    → (word_read size reading ≡ word_of_ecc size old)
    ⊎ ((word_read size reading ≡ Erased) ⊎ (word_read size reading ≡ Torn))
erase_cut size old cells None fits cells_fit reads over has whole = inr (inr refl)
erase_cut size old cells (Some read) fits cells_fit reads over has whole = elim (coded_cases size read) [
  | inl erased ↦ inr (inl erased.1)
  | inr (inl held) ↦ inl (sym (ap (word_read size) (whole read held.0 refl
      (had_ones old.cells cells read fits cells_fit (reads read refl) over has held.1))))
  | inr (inr torn) ↦ inr (inr torn)
]

-- ---- cells over coded words

pub over_coded : (payload : ℕ) → IsPayload payload → IsOverCoded (codeword payload)
over_coded payload bare none = absurd (none payload bare (and_self (codeword payload)))

has_of : (before left other : ℕ) → HasOnes before other → HasOnes left before
    → HasOnes left other
has_of before left other has still =
    ap (λ (k : ℕ). bit_and left k) (sym has) ∙ sym (and_assoc other left before)
    ∙ ap (λ (k : ℕ). bit_and k other) still ∙ has

pub over_kept : (before left : ℕ) → left ≤ all_ones → HasOnes left before → IsOverCoded before
    → IsOverCoded left
over_kept before left fits has over none =
    let whole = over (λ payload bare bits.
    none payload bare (has_of before left (codeword payload) bits has)) in
    let both : bit_and left all_ones ≡ all_ones =
    ap (λ (k : ℕ). bit_and left k) (sym whole) ∙ has ∙ whole in
    sym (and_comm left all_ones ∙ all_over left fits) ∙ both

-- ---- what a reading tells

-- of a reading that is held as a number, the payload
held_payload_is : (size : Size) (read number : ℕ) → coded_word size read ≡ Held number
    → (decoded read ≡ Some (payload_in read))
    × (coded_number size number ≡ codeword (payload_in read))
held_payload_is size read number is = elim (coded_cases size read) [
  | inl erased ↦ let none = erased.1 in absurd (cc (is, none))
  | inr (inl held) ↦
      let same : number_of_payload (payload_in read) ≡ number = let also = held.3 in cc (is, also) in (
        read_payload read held.1,
        ap codeword (ap (payload_of_number size) (sym same) ∙ sym held.2),
      )
  | inr (inr torn) ↦ absurd (cc (is, torn))
]

pub reading_told : (size : Size) (reading : Option ℕ) (word : Word) → word ≡ word_read size reading
    → IsTold size reading word
reading_told size reading word is = record {
  reads_as_written = λ number limits store fits reads.
      is ∙ ap (word_read size) reads ∙ reads_back size number limits fits store;
  torn_is_told = λ payload left read number bare fits has turned read_fits reads held.
      let found =
      held_payload_is size read number (sym (is ∙ ap (word_read size) reads) ∙ held) in
      found.1 ∙ ap codeword
      (torn_payload payload left read (payload_in read) bare (omega (arith, fits)) has turned
      (omega (arith, read_fits)) found.0);
  erase_makes_no_number =
      λ payload before left read number bare before_fits fits has still turned read_fits reads held.
      let found =
      held_payload_is size read number (sym (is ∙ ap (word_read size) reads) ∙ held) in
      found.1 ∙ ap codeword
      (erased_payload payload before left read (payload_in read) bare (omega (arith, before_fits))
      (omega (arith, fits)) has still turned (omega (arith, read_fits)) found.0);
  erased_is_none = λ read number turned read_fits reads held.
      let found =
      held_payload_is size read number (sym (is ∙ ap (word_read size) reads) ∙ held) in
      let none = erased_as_none read (omega (arith, read_fits)) turned in
      absurd (cc (found.0, none));
}
