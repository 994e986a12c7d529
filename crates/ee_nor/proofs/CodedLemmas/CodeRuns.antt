-- What the numbers of a page read as, one behind another.
use Rattle.std.proofs.Common.{◌≡◌, ℕ, ◌+◌, ◌<◌, ◌≤◌, Option, None, Some, List, length, get_or, refl, sym, ap, ◌∙◌, arith}
use Rattle.std.specs.Prelude.{unwrap_or}
use Rattle.std.proofs.lemmas.List.FromFn.{get_or-map-range_with_len, length-map-range_with_len}
use Rattle.std.proofs.lemmas.Grind.{same_number_lists}
use Rattle.ee_flash.specs.Runs.{AreReadings, words_from}
use Rattle.ee_flash.specs.Size.{Size, page_count}
use Rattle.ee_flash.specs.declared.word.Word.TheVariants.{Torn}
use Rattle.ee_nor.specs.Coded.Code.{codeword, mixed_bits, parity_bits, weight_row}
use Rattle.ee_nor.specs.Coded.Coded.{ReadsCoded, coded_device, coded_word, readings_from, word_read}
use Rattle.ee_nor.specs.Coded.EccNor.{EccDevice, EccNumber, IsEccFormed, ecc_at, ecc_in, ecc_page}
use Rattle.ee_nor.specs.Coded.Formed.{coded_is_formed}
use Rattle.ee_nor.proofs.CodedLemmas.Steps.{word_there}
use Rattle.ee_flash.proofs.Public.{read_by_place}

pub same_readings : (numbers : List EccNumber) (room : List ℕ) (at count : ℕ)
    → length room ≡ count
    → ((k : ℕ) → k < count → get_or room k 0 ≡ unwrap_or (ecc_in numbers (at + k)).reading 0)
    → room ≡ readings_from numbers at count
same_readings numbers room at count as_long each =
    let reading = λ (place : ℕ). unwrap_or (ecc_in numbers place).reading 0 in
    same_number_lists room (readings_from numbers at count)
    (as_long ∙ sym (length-map-range_with_len reading at count)) (λ k h.
    each k (omega arith)
    ∙ sym (get_or-map-range_with_len reading at count k (at + k) 0 (omega arith) (omega arith)))

-- 0 is no coded word
zero_is_torn : (size : Size) → coded_word size 0 ≡ Torn
unfolding codeword parity_bits mixed_bits weight_row lib.Count.ones
zero_is_torn size = refl

read_by : (size : Size) (reading : Option ℕ)
    → word_read size reading ≡ coded_word size (unwrap_or reading 0)
read_by size None = sym (zero_is_torn size)
read_by size (Some number) = refl

-- they are readings of the words of the device
pub coded_readings : (ecc : EccDevice) (page at count : ℕ) (room : List ℕ) → IsEccFormed ecc
    → page < page_count ecc.size → at + count ≤ ecc.size.words
    → room ≡ readings_from (ecc_page ecc page) at count
    → AreReadings (ReadsCoded ecc.size) (words_from (coded_device ecc) page at count) room
coded_readings ecc page at count room formed in_range within are =
    let reading = λ (place : ℕ). unwrap_or (ecc_in (ecc_page ecc page) place).reading 0 in
    read_by_place (ReadsCoded ecc.size) (coded_device ecc) page at count room
    (coded_is_formed ecc formed) in_range within
    (ap (λ (list : List ℕ). length list) are ∙ length-map-range_with_len reading at count)
    (λ k h.
    word_there ecc page (at + k) formed in_range (omega arith)
    ∙ read_by ecc.size (ecc_at ecc page (at + k)).reading
    ∙ ap (coded_word ecc.size)
    (sym
    (ap (λ (list : List ℕ). get_or list k 0) are
    ∙ get_or-map-range_with_len reading at count k (at + k) 0 h (omega arith))))
