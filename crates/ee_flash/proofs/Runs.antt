-- Words of a page as numbers.
use Rattle.std.proofs.Common.{◌≡◌, ℕ, ◌+◌, ◌<◌, ◌≤◌, List, [], drop, length, get_or, map, sym, subst, ap, ◌∙◌, arith}
use Rattle.std.proofs.lemmas.List.{get_or-drop, get_or-map, get_or-take, length-drop, length-map, length-take}
use Rattle.std.proofs.lemmas.Grind.{same_number_lists}
use Rattle.ee_flash.specs.Device.{Device, IsFormed, page_at, word_at}
use Rattle.ee_flash.specs.Runs.{AreReadings, IsOwnReading, number_of, words_from}
use Rattle.ee_flash.specs.Size.{page_count}
use Rattle.ee_flash.specs.declared.word.Word.{Word}
use Rattle.ee_flash.specs.declared.word.Word.TheVariants.{Erased}

-- numbers that are those of the words place by place are those of the words
pub same_numbers : (words : List Word) (numbers : List ℕ) → length numbers ≡ length words
    → ((k : ℕ) → k < length words → get_or numbers k 0 ≡ number_of (get_or words k Erased))
    → numbers ≡ map number_of words
same_numbers words numbers as_long each =
    same_number_lists numbers (map number_of words) (as_long ∙ sym (length-map words number_of))
    (λ k h. each k (omega arith)
    ∙ sym (get_or-map number_of words k Erased 0 (omega (arith, length-map words number_of))))

-- words read as their numbers
pub own_readings : (words : List Word) (readings : List ℕ) → readings ≡ map number_of words
    → AreReadings IsOwnReading words readings
own_readings words readings is = record {
  as_many = ap (λ (list : List ℕ). length list) is ∙ length-map words number_of;
  each = λ k h. ap (λ (list : List ℕ). get_or list k 0) is
      ∙ get_or-map number_of words k Erased 0 h;
}

-- a run whose words read so place by place
pub read_by_place : (reads : Word → ℕ → Type 0) (device : Device) (page at count : ℕ)
    (room : List ℕ) → IsFormed device → page < page_count device.size
    → at + count ≤ device.size.words → length room ≡ count
    → ((k : ℕ) → k < count → reads (word_at device page (at + k)) (get_or room k 0))
    → AreReadings reads (words_from device page at count) room
read_by_place reads device page at count room formed in_range within all each =
    let words = page_at device page in
    let as_long : length words ≡ device.size.words =
    formed.page_lengths page [] (omega (arith, formed.image_length)) in
    let long : length (words_from device page at count) ≡ count =
    simp (length-take, length-drop) (omega (arith, as_long)) in
    record {
      as_many = all ∙ sym long;
      each = λ k h.
          let below : k < count = omega (arith, h, long) in
          subst (λ (word : Word). reads word (get_or room k 0))
          (sym (get_or-take count (drop at words) k Erased below ∙ get_or-drop at words k Erased))
          (each k below);
    }
