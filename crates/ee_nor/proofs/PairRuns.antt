-- The numbers of words one behind another.
use Rattle.std.proofs.Common.{◌≡◌, ℕ, ◌+◌, ◌-◌, ◌*◌, ◌<◌, ◌≤◌, List, length, get_or, take, drop, sym, ap, ◌∙◌, arith}
use Rattle.std.proofs.lemmas.List.{get_or-drop, get_or-take}
use Rattle.std.proofs.lemmas.List.FromFn.{get_or-map-range_with_len, length-map-range_with_len}
use Rattle.std.proofs.lemmas.Grind.{same_number_lists}
use Rattle.ee_flash.specs.Device.{all_ones}
use Rattle.ee_flash.specs.Runs.{AreReadings, IsOwnReading, number_of, words_from}
use Rattle.ee_flash.proofs.Public.{read_by_place}
use Rattle.ee_flash.specs.Size.{page_count}
use Rattle.ee_nor.specs.Nor.{IsNorFormed, NorDevice, number_in, numbers_at}
use Rattle.ee_nor.specs.Pairs.{AreHigh, run_of_pairs, pair_in, paired_device}
use Rattle.ee_nor.specs.Formed.{pairs_are_formed}
use Rattle.ee_nor.proofs.Steps.{word_there}

-- numbers that are those of the words place by place are their run
pub same_run_of_pairs : (numbers room : List ℕ) (at count : ℕ) → length room ≡ count
    → ((k : ℕ) → k < count → get_or room k 0 ≡ number_of (pair_in numbers (at + k)))
    → room ≡ run_of_pairs numbers at count
same_run_of_pairs numbers room at count as_long each =
    let number_of_word = λ (word : ℕ). number_of (pair_in numbers word) in
    same_number_lists room (run_of_pairs numbers at count)
    (as_long ∙ sym (length-map-range_with_len number_of_word at count)) (λ k h.
    each k (omega arith)
    ∙ sym
    (get_or-map-range_with_len number_of_word at count k (at + k) 0 (omega arith)
    (omega arith)))

-- the two numbers of a word stand in a part of the page as in the page
module _ (numbers : List ℕ) (at count : ℕ) where
  abbrev part : List ℕ
  part = take (2 * count) (drop (2 * at) numbers)

  there : (place : ℕ) → place < 2 * count
      → number_in part place ≡ number_in numbers (2 * at + place)
  there place below =
      get_or-take (2 * count) (drop (2 * at) numbers) place all_ones below
      ∙ get_or-drop (2 * at) numbers place all_ones

  first_there : (k : ℕ) → k < count → number_in part (2 * k) ≡ number_in numbers (2 * (at + k))
  first_there k below = there (2 * k) (omega arith) ∙ ap (number_in numbers) (omega arith)

  second_there : (k : ℕ) → k < count
      → number_in part (2 * k + 1) ≡ number_in numbers (2 * (at + k) + 1)
  second_there k below = there (2 * k + 1) (omega arith) ∙ ap (number_in numbers) (omega arith)

  -- a run in a part of the page, from its beginning on, is the page's from there on
  pub run_of_pairs-window : run_of_pairs part 0 count ≡ run_of_pairs numbers at count
  run_of_pairs-window =
      let number_of_word = λ (word : ℕ). number_of (pair_in part word) in
      same_run_of_pairs numbers (run_of_pairs part 0 count) at count
      (length-map-range_with_len number_of_word 0 count) (λ k h.
      let first = first_there k h in
      let second = second_there k h in
      get_or-map-range_with_len number_of_word 0 count k k 0 h (omega arith) ∙ cc)

  -- where none of its words is low, none of these words of the page is
  pub high-window : (to : ℕ) → to ≤ count → AreHigh part 0 to → AreHigh numbers at (at + to)
  high-window to within high word from below =
      let k = word - at in
      let same : at + k ≡ word = omega arith in
      let first =
      first_there k (omega arith) ∙ ap (λ (place : ℕ). number_in numbers (2 * place)) same in
      let second =
      second_there k (omega arith)
      ∙ ap (λ (place : ℕ). number_in numbers (2 * place + 1)) same in
      omega (arith, high k (omega arith) (omega arith), first, second)

-- they are readings of the words of the device
pub pair_readings : (nor : NorDevice) (page at count : ℕ) (room : List ℕ) → IsNorFormed nor
    → page < page_count nor.size → at + count ≤ nor.size.words
    → room ≡ run_of_pairs (numbers_at nor page) at count
    → AreReadings IsOwnReading (words_from (paired_device nor) page at count) room
pair_readings nor page at count room formed in_range within are =
    let number_of_word = λ (word : ℕ). number_of (pair_in (numbers_at nor page) word) in
    read_by_place IsOwnReading (paired_device nor) page at count room (pairs_are_formed nor formed)
    in_range within
    (ap (λ (list : List ℕ). length list) are ∙ length-map-range_with_len number_of_word at count)
    (λ k h.
    ap (λ (list : List ℕ). get_or list k 0) are
    ∙ get_or-map-range_with_len number_of_word at count k (at + k) 0 h (omega arith)
    ∙ ap number_of (sym (word_there nor page (at + k) formed in_range (omega arith))))
