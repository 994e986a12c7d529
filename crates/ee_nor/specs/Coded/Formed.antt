-- Why the words of a flash of coded numbers are formed.
use Rattle.std.specs.Prelude.{◌≡◌, ◌≢◌, ◌⊎◌, ◌<◌, ◌≤◌, ◌%◌, ◌^◌, ℕ, Option, Some, None, List, [], length, map}
use Rattle.std.specs.List.{All}
use Rattle.std.proofs.Common.{arith, inl, inr, refl, ◌∙◌}
use Rattle.std.proofs.lemmas.Bool.{cases_eq, eq-eqb, ne_eqb}
use Rattle.std.proofs.lemmas.List.{get_or-map, length-map}
use Rattle.ee_flash.specs.Device.{IsBelowAllOnes, IsFormed, all_ones}
use Rattle.ee_flash.specs.Size.{Size}
use Rattle.ee_flash.specs.declared.word.Word.TheVariants.{Erased, Held, Torn}
use Rattle.ee_nor.specs.Coded.Code.{IsPayload, codeword, payload_in}
use Rattle.ee_nor.specs.Coded.Coded.{coded_device, coded_word, number_of_payload, payload_of_number, word_of_ecc, word_read}
use Rattle.ee_nor.specs.Coded.EccNor.{EccDevice, EccNumber, IsEccFormed, IsEccNumber, IsReadingOf, whole_number}

-- what a number of the flash is as a word
pub coded_cases : (size : Size) (number : ℕ)
    → ((number ≡ all_ones) × (coded_word size number ≡ Erased))
    ⊎ (((number ≢ all_ones) × (number ≡ codeword (payload_in number))
    × (payload_in number ≡ payload_of_number size (number_of_payload (payload_in number)))
    × (coded_word size number ≡ Held (number_of_payload (payload_in number))))
    ⊎ (coded_word size number ≡ Torn))
coded_cases size number = elim (cases_eq number all_ones) [
  | inl same ↦ inl (same, rw (eq-eqb number all_ones same) refl)
  | inr other ↦ elim (cases_eq number (codeword (payload_in number))) [
    | inl is ↦
        let back = payload_of_number size (number_of_payload (payload_in number)) in
        elim (cases_eq (payload_in number) back) [
          | inl own ↦ inr (inl (
            other,
            is,
            own,
            rw (
              ne_eqb number all_ones other,
              eq-eqb number (codeword (payload_in number)) is,
              eq-eqb (payload_in number) back own,
            ) refl,
          ))
          | inr none ↦ inr (inr (rw (
            ne_eqb number all_ones other,
            eq-eqb number (codeword (payload_in number)) is,
            ne_eqb (payload_in number) back none,
          ) refl))
        ]
    | inr not ↦ inr (inr (rw (
      ne_eqb number all_ones other,
      ne_eqb number (codeword (payload_in number)) not,
    ) refl))
  ]
]

pub payload_number_fits : (payload : ℕ) → IsPayload payload → number_of_payload payload < all_ones
unfolding number_of_payload
payload_number_fits payload fits = elim (cases_eq (payload % 2 ^ 17) 0) [
  | inl none ↦ rw (eq-eqb (payload % 2 ^ 17) 0 none) (omega arith)
  | inr some ↦ elim (cases_eq (payload % 2 ^ 17) (2 ^ 16)) [
    | inl mark ↦
        rw (ne_eqb (payload % 2 ^ 17) 0 some, eq-eqb (payload % 2 ^ 17) (2 ^ 16) mark) (omega arith)
    | inr slot ↦ rw (ne_eqb (payload % 2 ^ 17) 0 some, ne_eqb (payload % 2 ^ 17) (2 ^ 16) slot)
        (omega arith)
  ]
]

pub coded_below : (size : Size) (number : ℕ) → number ≤ all_ones
    → IsBelowAllOnes (coded_word size number)
coded_below size number fits value is = elim (coded_cases size number) [
  | inl erased ↦ let none = erased.1 in cc
  | inr (inl held) ↦
      let same : number_of_payload (payload_in number) ≡ value = let also = held.3 in cc in
      omega (arith, payload_number_fits (payload_in number) (omega arith), same)
  | inr (inr torn) ↦ cc
]

torn_below : IsBelowAllOnes Torn
torn_below value is = cc

reading_below : (size : Size) (cells : ℕ) (reading : Option ℕ)
    → ((read : ℕ) → reading ≡ Some read → IsReadingOf cells read)
    → IsBelowAllOnes (word_read size reading)
reading_below size cells None reads = torn_below
reading_below size cells (Some read) reads = coded_below size read (reads read refl).fits

pub read_below : (size : Size) (number : EccNumber) → IsEccNumber number
    → IsBelowAllOnes (word_of_ecc size number)
read_below size number formed = reading_below size number.cells number.reading formed.reads

words_below : (size : Size) (numbers : List EccNumber) → All IsEccNumber numbers
    → All IsBelowAllOnes (map (word_of_ecc size) numbers)
words_below size numbers each at none h =
    let below : at < length numbers = omega (arith, length-map numbers (word_of_ecc size)) in
    rw (get_or-map (word_of_ecc size) numbers at (whole_number all_ones) none below)
    (read_below size _ (each at (whole_number all_ones) below))

pub coded_is_formed : (ecc : EccDevice) → IsEccFormed ecc → IsFormed (coded_device ecc)
coded_is_formed ecc formed =
    let words = map (word_of_ecc ecc.size) in
    let count = length-map ecc.image words in
    record {
      within_limits = formed.within_limits;
      image_length = count ∙ formed.image_length;
      page_lengths =
          λ page none h. let below : page < length ecc.image = omega (arith, count) in
          rw (get_or-map words ecc.image page [] none below)
          (length-map _ (word_of_ecc ecc.size) ∙ formed.page_lengths page [] below);
      below_all_ones =
          λ page none h. let below : page < length ecc.image = omega (arith, count) in
          rw (get_or-map words ecc.image page [] none below)
          (words_below ecc.size _ (formed.numbers_fit page [] below));
      wear_length = formed.wear_length;
      wear_fits = formed.wear_fits;
      cuts_fit = formed.cuts_fit;
      cuts_left_fit = formed.cuts_left_fit;
    }
