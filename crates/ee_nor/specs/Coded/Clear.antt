-- Why a coded word shows as it is what a reading has to show.
use Rattle.std.specs.Prelude.{◌≡◌, ◌⊎◌, ◌<◌, ℕ, ◌+◌, ◌*◌, ◌/◌, ◌%◌, ◌^◌}
use Rattle.std.proofs.Common.{inl, inr, refl, sym, ap, subst, ◌∙◌, arith}
use Rattle.std.proofs.lemmas.Bool.{cases_eq, cases_lt, eq-eqb, le-ltb, lt-ltb, ne_eqb}
use Rattle.ee_flash.specs.Device.{all_ones}
use Rattle.ee_flash.specs.Numbers.{IsSlotNumber, header_half}
use Rattle.ee_flash.specs.Runs.{IsInClear, IsShownBy, number_of}
use Rattle.ee_flash.specs.Size.{Size}
use Rattle.ee_flash.specs.declared.word.Word.{Word}
use Rattle.ee_flash.specs.declared.word.Word.TheVariants.{Erased, Held, Torn}
use Rattle.ee_nor.specs.Coded.Code.{payload_in}
use Rattle.ee_nor.specs.Coded.Coded.{ReadsCoded, SlotsStandInClear, coded_word, mark_payload, number_of_payload, payload_of_number}
use Rattle.ee_nor.specs.Coded.Formed.{coded_cases}

-- a slot's, the mark, or another
pub number_cases : (size : Size) (number : ℕ)
    → ((number % 2 ^ 32 < 2 ^ 17) × (0 < number % 2 ^ 16)
    × (payload_of_number size number ≡ number / 2 ^ 32 * 2 ^ 17 + number % 2 ^ 17))
    ⊎ (((IsSlotNumber number → ⊥) × (number % 2 ^ 32 ≡ header_half)
    × (payload_of_number size number ≡ mark_payload size))
    ⊎ ((IsSlotNumber number → ⊥) × (payload_of_number size number ≡ number % 2 ^ 32 * 2 ^ 17)))
unfolding payload_of_number
number_cases size number = elim (cases_lt (number % 2 ^ 32) (2 ^ 17)) [
  | inl low ↦ elim (cases_lt 0 (number % 2 ^ 16)) [
    | inl some ↦ inl (
      low,
      some,
      rw (lt-ltb (number % 2 ^ 32) (2 ^ 17) low, lt-ltb 0 (number % 2 ^ 16) some) refl,
    )
    | inr none ↦ inr (inr (
      λ slot. let some = slot.1 in omega (arith, some, none),
      rw (
        lt-ltb (number % 2 ^ 32) (2 ^ 17) low,
        le-ltb 0 (number % 2 ^ 16) none,
        ne_eqb (number % 2 ^ 32) header_half (λ same. omega (arith, same, low)),
      ) refl,
    ))
  ]
  | inr high ↦
      let no_slot : IsSlotNumber number → ⊥ = λ slot. let low = slot.0 in omega (arith, low, high) in
      elim (cases_eq (number % 2 ^ 32) header_half) [
        | inl mark ↦ inr (inl (
          no_slot,
          mark,
          rw (
            le-ltb (number % 2 ^ 32) (2 ^ 17) high,
            eq-eqb (number % 2 ^ 32) header_half mark,
          ) refl,
        ))
        | inr other ↦ inr (inr (
          no_slot,
          rw (
            le-ltb (number % 2 ^ 32) (2 ^ 17) high,
            ne_eqb (number % 2 ^ 32) header_half other,
          ) refl,
        ))
      ]
]

-- a payload with an address is a slot number's
pub slot_of_payload : (payload : ℕ) → 0 < payload % 2 ^ 16
    → number_of_payload payload ≡ payload / 2 ^ 17 * 2 ^ 32 + payload % 2 ^ 17
unfolding number_of_payload
slot_of_payload payload some =
    let header = ne_eqb (payload % 2 ^ 17) 0 (λ none. omega (arith, none, some)) in
    let mark = ne_eqb (payload % 2 ^ 17) (2 ^ 16) (λ same. omega (arith, same, some)) in
    rw (header, mark) refl

is_slot : (payload number : ℕ) → number_of_payload payload ≡ number → 0 < payload % 2 ^ 16
    → IsSlotNumber number
is_slot payload number same some =
    let is = sym same ∙ slot_of_payload payload some in
    (omega (arith, is), omega (arith, is, some))

in_clear : (size : Size) (read number : ℕ) → payload_in read ≡ payload_of_number size number
    → IsSlotNumber number → (read / 2 ^ 32 ≡ number / 2 ^ 32) × (read % 2 ^ 17 ≡ number % 2 ^ 17)
in_clear size read number own slot = elim (number_cases size number) [
  | inl is ↦
      let payload = own ∙ is.2 in
      let low = is.0 in
      (omega (arith, payload, low), omega (arith, payload, low))
  | inr (inl mark) ↦ absurd (mark.0 slot)
  | inr (inr header) ↦ absurd (header.0 slot)
]

pub slots_stand_in_clear : SlotsStandInClear
slots_stand_in_clear size read number word = elim (coded_cases size read) [
  | inl erased ↦ let none = erased.1 in cc
  | inr (inl held) ↦
      let same : number_of_payload (payload_in read) ≡ number = let also = held.3 in cc in
      let own : payload_in read ≡ payload_of_number size number =
      held.2 ∙ ap (payload_of_number size) same in (
        λ some. is_slot (payload_in read) number same (omega (arith, some)),
        in_clear size read number own,
      )
  | inr (inr torn) ↦ cc
]

-- the word of a reading, by what stands in clear in it
same_slot : (size : Size) (word : Word) (reading : ℕ) → ReadsCoded size word reading
    → IsSlotNumber (number_of word)
    → (reading / 2 ^ 32 ≡ number_of word / 2 ^ 32) × (reading % 2 ^ 17 ≡ number_of word % 2 ^ 17)
same_slot size Erased reading is slot = let low = slot.0 in omega (arith, low)
same_slot size Torn reading is slot = let some = slot.1 in omega (arith, some)
same_slot size (Held number) reading is slot =
    let clear = slots_stand_in_clear size reading number (sym is) in clear.1 slot

erased_ones : (size : Size) (reading : ℕ) → coded_word size reading ≡ Erased → reading ≡ all_ones
erased_ones size reading is = elim (coded_cases size reading) [
  | inl erased ↦ erased.0
  | inr (inl held) ↦ let other = held.3 in cc
  | inr (inr torn) ↦ cc
]

pub coded_shown : (size : Size) (word : Word) (reading : ℕ) → ReadsCoded size word reading
    → IsShownBy word reading
coded_shown size word reading is = record {
  erased = λ erased. erased_ones size reading (sym is ∙ erased);
  only_erased = λ ones below. is ∙ rw (eq-eqb reading all_ones ones) refl;
  address = λ slot. let same = same_slot size word reading is slot in
      let low = same.1 in
      omega (arith, low);
}

held_in_clear : (size : Size) (reading number : ℕ)
    → number ≡ reading / 2 ^ 32 * 2 ^ 32 + reading % 2 ^ 17 → IsSlotNumber number
    → number % 2 ^ 16 < 65535
    → (coded_word size reading ≡ Held number) ⊎ (coded_word size reading ≡ Torn)
held_in_clear size reading number is slot low = elim (coded_cases size reading) [
  | inl erased ↦ let ones = erased.0 in absurd (omega (arith, is, ones, low))
  | inr (inl held) ↦
      let own = number_of_payload (payload_in reading) in
      let clear = slots_stand_in_clear size reading own held.3 in
      let some = slot.1 in
      let own_slot = clear.0 (omega (arith, is, some)) in
      let same = clear.1 own_slot in
      let high = same.0 in
      let rest = same.1 in
      let fits = own_slot.0 in
      let all : own ≡ number = omega (arith, is, high, rest, fits) in
      inl (held.3 ∙ ap Held all)
  | inr (inr torn) ↦ inr torn
]

pub coded_in_clear : (size : Size) (word : Word) (reading number : ℕ)
    → number ≡ reading / 2 ^ 32 * 2 ^ 32 + reading % 2 ^ 17 → ReadsCoded size word reading
    → IsInClear word number
coded_in_clear size word reading number is reads = record {
  slot = λ slot.
      let same = same_slot size word reading reads slot in
      let high = same.0 in
      let rest = same.1 in
      let fits = slot.0 in
      omega (arith, is, high, rest, fits);
  held = λ slot low.
      subst (λ (other : Word). (other ≡ Held number) ⊎ (other ≡ Torn)) (sym reads)
      (held_in_clear size reading number is slot low);
}
