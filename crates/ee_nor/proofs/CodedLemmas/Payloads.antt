-- The word of a payload, by its 17 lowest bits.
use Rattle.std.proofs.Common.{◌≡◌, ◌≢◌, inl, inr, ℕ, ◌+◌, ◌*◌, ◌/◌, ◌%◌, ◌^◌, ◌<◌, Some, true, false, refl, sym, ap, ◌∙◌, arith}
use Rattle.std.proofs.lemmas.Bool.{cases_lt, eq-eqb, le-ltb, lt-ltb, ne_eqb}
use Rattle.ee_flash.specs.Device.{all_ones}
use Rattle.ee_flash.specs.Numbers.{IsSlotNumber, header_half}
use Rattle.ee_flash.specs.Size.{Size}
use Rattle.ee_flash.specs.declared.word.Word.TheVariants.{Held, Torn}
use Rattle.ee_nor.specs.Coded.Clear.{number_cases, slot_of_payload}
use Rattle.ee_nor.specs.Coded.Code.{codeword, payload_in}
use Rattle.ee_nor.specs.Coded.Coded.{coded_word, held_payload, is_slot_number, mark_payload, number_of_payload, payload_of_number}
use Rattle.ee_nor.proofs.CodedLemmas.Numbers.{coded_below, mark_is, own_payload}

torn_payload : (size : Size) (payload number : ℕ) → number_of_payload payload ≡ number
    → payload ≢ payload_of_number size number → held_payload size (Some payload) ≡ Torn
torn_payload size payload number back other =
    rw (ne_eqb payload (payload_of_number size (number_of_payload payload))
    (λ same. other (same ∙ ap (payload_of_number size) back))) refl

-- ---- with an address

pub slot_held : (size : Size) (payload : ℕ) → 0 < payload % 2 ^ 16
    → held_payload size (Some payload) ≡ Held (payload / 2 ^ 17 * 2 ^ 32 + payload % 2 ^ 17)
slot_held size payload some =
    let number = payload / 2 ^ 17 * 2 ^ 32 + payload % 2 ^ 17 in
    let slot : IsSlotNumber number = (omega arith, omega (arith, some)) in
    elim (number_cases size number) [
      | inl is ↦
          let own = is.2 in
          own_payload size payload number (omega (arith, own)) (slot_of_payload payload some)
      | inr (inl mark) ↦ absurd (mark.0 slot)
      | inr (inr header) ↦ absurd (header.0 slot)
    ]

-- a coded word with an address
pub slot_read : (size : Size) (read number : ℕ) → read < 2 ^ 64 → read ≡ codeword (payload_in read)
    → 0 < read % 2 ^ 16 → number ≡ read / 2 ^ 32 * 2 ^ 32 + read % 2 ^ 17
    → coded_word size read ≡ Held number
slot_read size read number fits is some own =
    let payload = payload_in read in
    let below = coded_below payload (omega (arith, fits)) in
    let held = slot_held size payload (omega (arith, some)) in
    let clear : payload / 2 ^ 17 * 2 ^ 32 + payload % 2 ^ 17 ≡ number = omega (arith, own) in
    rw (ne_eqb read all_ones (λ same. omega (arith, below, same, is)), eq-eqb read (codeword payload) is)
    (held ∙ ap Held clear)

-- ---- the mark's

mark_number : (payload : ℕ) → payload % 2 ^ 17 ≡ 2 ^ 16
    → number_of_payload payload ≡ header_half * 2 ^ 32 + header_half
unfolding number_of_payload
mark_number payload low =
    let some = ne_eqb (payload % 2 ^ 17) 0 (λ none. omega (arith, none, low)) in
    rw (some, eq-eqb (payload % 2 ^ 17) (2 ^ 16) low) refl

pub mark_held : (size : Size) (payload : ℕ) → payload % 2 ^ 17 ≡ 2 ^ 16
    → payload ≡ mark_payload size
    → held_payload size (Some payload) ≡ Held (header_half * 2 ^ 32 + header_half)
mark_held size payload low own =
    own_payload size payload _ (own ∙ sym (mark_is size)) (mark_number payload low)

pub mark_torn : (size : Size) (payload : ℕ) → payload % 2 ^ 17 ≡ 2 ^ 16
    → payload ≢ mark_payload size → held_payload size (Some payload) ≡ Torn
mark_torn size payload low other =
    torn_payload size payload _ (mark_number payload low) (λ same. other (same ∙ mark_is size))

-- ---- another header's

header_number : (payload : ℕ) → payload % 2 ^ 17 ≡ 0
    → number_of_payload payload ≡ header_half * 2 ^ 32 + payload / 2 ^ 17
unfolding number_of_payload
header_number payload low = rw (eq-eqb (payload % 2 ^ 17) 0 low) refl

slot_flag : (value : ℕ) → value % 2 ^ 32 < 2 ^ 17 → 0 < value % 2 ^ 16
    → is_slot_number value ≡ true
slot_flag value low some =
    rw (lt-ltb (value % 2 ^ 32) (2 ^ 17) low, lt-ltb 0 (value % 2 ^ 16) some) refl

slot_by_flag : (value : ℕ) → is_slot_number value ≡ true → IsSlotNumber value
slot_by_flag value flag = elim (cases_lt (value % 2 ^ 32) (2 ^ 17)) [
  | inl low ↦ elim (cases_lt 0 (value % 2 ^ 16)) [
    | inl some ↦ (low, some)
    | inr none ↦
        let no : is_slot_number value ≡ false =
        rw (lt-ltb (value % 2 ^ 32) (2 ^ 17) low, le-ltb 0 (value % 2 ^ 16) none) refl in
        cc
  ]
  | inr high ↦
      let no : is_slot_number value ≡ false = rw (le-ltb (value % 2 ^ 32) (2 ^ 17) high) refl in
      cc
]

module _ (size : Size) (payload value : ℕ) (is : payload ≡ value * 2 ^ 17) (fits : value < 2 ^ 32) where
  abbrev number : ℕ
  number = header_half * 2 ^ 32 + value

  back : number_of_payload payload ≡ number
  back = header_number payload (omega (arith, is)) ∙ omega (arith, is)

  pub header_held : is_slot_number value ≡ false → value ≢ header_half
      → held_payload size (Some payload) ≡ Held number
  header_held no_slot no_mark = elim (number_cases size number) [
    | inl slot ↦
        let low = slot.0 in
        let some = slot.1 in
        let flag = slot_flag value (omega (arith, low, fits)) (omega (arith, some)) in
        cc
    | inr (inl mark) ↦ let low = mark.1 in absurd (no_mark (omega (arith, low, fits)))
    | inr (inr header) ↦
        let own = header.1 in own_payload size payload number (omega (arith, own, is, fits)) back
  ]

  pub header_of_slot_torn : is_slot_number value ≡ true → held_payload size (Some payload) ≡ Torn
  header_of_slot_torn flag =
      let slot = slot_by_flag value flag in
      let value_low = slot.0 in
      let value_some = slot.1 in
      elim (number_cases size number) [
        | inl found ↦
            let own = found.2 in
            torn_payload size payload number back
            (λ same. omega (arith, same, own, is, value_low, value_some, fits))
        | inr (inl mark) ↦ let no = mark.0 in
            absurd (no (omega (arith, value_low, fits), omega (arith, value_some)))
        | inr (inr header) ↦ let no = header.0 in
            absurd (no (omega (arith, value_low, fits), omega (arith, value_some)))
      ]

  pub header_of_mark_torn : value ≡ header_half → held_payload size (Some payload) ≡ Torn
  header_of_mark_torn half =
      let whole : number ≡ header_half * 2 ^ 32 + header_half = omega (arith, half) in
      let own = ap (payload_of_number size) whole ∙ mark_is size in
      torn_payload size payload number back (λ same. omega (arith, same, own, is))
