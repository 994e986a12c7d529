-- What a step that is taken on a mirror does to the device that it means.
use Rattle.std.proofs.Common.{◌≡◌, inl, inr, ℕ, ◌+◌, ◌*◌, ◌<◌, ◌≤◌, List, length, get_or, set, replicate, refl, sym, ap, ◌∙◌, arith, drop, rules, take}
use Rattle.std.proofs.lemmas.Grind.{common_steps}
use borrow.Rule.Slice.PartMut.{put_mid}
use Rattle.std.proofs.lemmas.Bool.{cases_eq, cases_lt}
use Rattle.std.proofs.lemmas.Bool.Decides.{nat_tests}
use Rattle.std.proofs.lemmas.List.{ext_get_or, get_or-set_other, get_or-set_same, length-map, length-replicate, length-set, places}
use Rattle.std.proofs.lemmas.Nat.{mul-add-lt, row_fits}
use Rattle.std.proofs.lemmas.Slice.Zip.{length-zip}
use Rattle.ee_flash.specs.Device.{Device, all_ones}
use Rattle.ee_flash.specs.Laws.{CanTake, all_completed}
use Rattle.ee_flash.specs.Pages.{pages_of}
use Rattle.ee_flash.specs.Size.{Size, page_count}
use Rattle.ee_flash.specs.Step.{Step, Program, device_after}
use Rattle.ee_flash.specs.declared.word.Word.TheVariants.{Erased}
use Rattle.ee_flash.proofs.Public.{pages_of-rewritten, pages_of-set}
use Rattle.ee_flash.specs.Endurance.{CanTakeAll}
use Rattle.ee_web.specs.DraftLaws.{one_more_step}
use Rattle.ee_web.specs.Listing.{step_listed_so, steps_of}
use Rattle.ee_web.specs.Mirror.{cells_of, word_of_number, mirrored_device}
use Rattle.ee_web.specs.declared.listing.ListedStep.{ListedStep}
use Rattle.ee_web.proofs.DraftSteps.{decoded_at, next_listed, next_taken, part_taken}

pub length-cells_of : (words flags : List ℕ) → length flags ≡ length words
    → length (cells_of words flags) ≡ length words
unfolding cells_of
length-cells_of words flags as_many = search (rules, length-map, length-zip)

-- a word programmed
cells_of-set : (words flags : List ℕ) (place value : ℕ) → length flags ≡ length words
    → place < length words
    → cells_of (set words place value) (set flags place 0)
    ≡ set (cells_of words flags) place (word_of_number value 0)
cells_of-set words flags place value as_many within =
    let new_words = set words place value in
    let new_flags = set flags place 0 in
    let words_length = length-set words place value in
    let flags_length = length-set flags place 0 in
    let new_length =
    length-cells_of new_words new_flags (flags_length ∙ as_many ∙ sym words_length) in
    let old_length = length-cells_of words flags as_many in
    let changed_length = length-set (cells_of words flags) place (word_of_number value 0) in
    ext_get_or Erased _ _ (new_length ∙ words_length ∙ sym (changed_length ∙ old_length)) (λ i h.
    let below : i < length words = omega (arith, new_length, words_length) in
    decoded_at new_words new_flags i (omega (arith, words_length)) (omega (arith, flags_length))
    ∙ elim (cases_eq i place) [
      | inl same ↦ rw (
        same,
        get_or-set_same words place value 0 within,
        get_or-set_same flags place 0 0 (omega arith),
      )
          (sym
          (get_or-set_same (cells_of words flags) place (word_of_number value 0) Erased
          (omega (arith, old_length))))
      | inr other ↦ rw
          (get_or-set_other words place i value 0 other, get_or-set_other flags place i 0 0 other)
          (sym
          (get_or-set_other (cells_of words flags) place i (word_of_number value 0) Erased other
          ∙ decoded_at words flags i below (omega arith)))
    ])

pub word_programmed : (size : Size) (words flags wears : List ℕ) (page at value width : ℕ)
    → length words ≡ page_count size * size.words → length flags ≡ page_count size * size.words
    → page < page_count size → at < size.words → value < all_ones → width ≡ size.words
    → mirrored_device size (set words (page * width + at) value) (set flags (page * width + at) 0)
    wears
    ≡ device_after (Program page at value) (mirrored_device size words flags wears)
word_programmed size words flags wears page at value width as_many flagged page_in place_in below
    is_width =
    grind (arith, common_steps, cells_of-set, length-cells_of, mul-add-lt, nat_tests, pages_of-set)

-- a stretch of words erased
cells_of-erased : (words flags : List ℕ) (start width : ℕ) → length flags ≡ length words
    → start + width ≤ length words
    → cells_of (put_mid start width words (replicate width all_ones))
    (put_mid start width flags (replicate width 0))
    ≡ put_mid start width (cells_of words flags) (replicate width Erased)
cells_of-erased words flags start width as_many within =
    let ones = replicate width all_ones in
    let zeros = replicate width 0 in
    let blank = replicate width Erased in
    let new_words = put_mid start width words ones in
    let new_flags = put_mid start width flags zeros in
    let cells = cells_of words flags in
    let ones_length : length ones ≡ width = length-replicate width all_ones in
    let zeros_length : length zeros ≡ width = length-replicate width 0 in
    let blank_length : length blank ≡ width = length-replicate width Erased in
    let old_length : length cells ≡ length words = length-cells_of words flags as_many in
    let words_length : length new_words ≡ length words = search (rules, places) in
    let flags_length : length new_flags ≡ length words = search (rules, places) in
    let new_length = length-cells_of new_words new_flags (flags_length ∙ sym words_length) in
    let changed_length : length (put_mid start width cells blank) ≡ length words =
    search (rules, places) in
    ext_get_or Erased _ _ (new_length ∙ words_length ∙ sym changed_length) (λ i h.
    let below : i < length words = omega (arith, new_length, words_length) in
    decoded_at new_words new_flags i (omega (arith, words_length)) (omega (arith, flags_length))
    ∙ elim (cases_lt i start) [
      | inl before ↦
          let word : get_or new_words i 0 ≡ get_or words i 0 = grind (arith, places) in
          let flag : get_or new_flags i 0 ≡ get_or flags i 0 = grind (arith, places) in
          let cell : get_or (put_mid start width cells blank) i Erased ≡ get_or cells i Erased =
          grind (arith, places) in
          rw (word, flag, cell) (sym (decoded_at words flags i below (omega arith)))
      | inr from ↦ elim (cases_lt i (start + width)) [
        | inl inside ↦
            let word : get_or new_words i 0 ≡ all_ones = grind (arith, places) in
            let flag : get_or new_flags i 0 ≡ 0 = grind (arith, places) in
            let cell : get_or (put_mid start width cells blank) i Erased ≡ Erased =
            grind (arith, places) in
            rw (word, flag, cell) refl
        | inr behind ↦
            let word : get_or new_words i 0 ≡ get_or words i 0 = grind (arith, places) in
            let flag : get_or new_flags i 0 ≡ get_or flags i 0 = grind (arith, places) in
            let cell : get_or (put_mid start width cells blank) i Erased ≡ get_or cells i Erased =
            grind (arith, places) in
            rw (word, flag, cell) (sym (decoded_at words flags i below (omega arith)))
      ]
    ])

pub page_erased : (size : Size) (words flags ones zeros : List ℕ) (page start width : ℕ)
    → length words ≡ page_count size * size.words → length flags ≡ page_count size * size.words
    → page < page_count size → start ≡ page * size.words → width ≡ size.words
    → ones ≡ replicate width all_ones → zeros ≡ replicate width 0
    → pages_of size (cells_of (put_mid start width words ones) (put_mid start width flags zeros))
    ≡ set (pages_of size (cells_of words flags)) page (replicate size.words Erased)
page_erased size words flags ones zeros page start width as_many flagged page_in is_start is_width
    is_ones is_zeros =
    search (rules, cells_of-erased, length-cells_of, length-replicate, pages_of-rewritten, row_fits)

-- the length of a stretch of a list
pub part_length : (xs : List ℕ) (start width : ℕ) → start + width ≤ length xs
    → length (take width (drop start xs)) ≡ width
part_length xs start width within = search (rules, places)

-- a step whose place is not all ones is a program
pub is_program : (step : ListedStep) → (step.place ≡ all_ones → ⊥)
    → step_listed_so step ≡ Program step.page step.place step.value
is_program step other = search (rules, nat_tests)

-- the step that comes can be taken
pub step_may : (start now : Device) (listed : List ListedStep) (count taken : ℕ) (none : ListedStep)
    → count ≤ length listed → taken < count → CanTakeAll (steps_of count listed) start
    → now ≡ all_completed (steps_of taken listed) start
    → CanTake (step_listed_so (get_or listed taken none)) now
step_may start now listed count taken none within below all_taken is_now =
    search (rules, next_listed, next_taken, part_taken)

-- and leaves what one step more leaves
pub step_done : (start now next : Device) (listed : List ListedStep) (taken : ℕ) (none : ListedStep)
    → taken < length listed → now ≡ all_completed (steps_of taken listed) start
    → next ≡ device_after (step_listed_so (get_or listed taken none)) now
    → next ≡ all_completed (steps_of (taken + 1) listed) start
step_done start now next listed taken none within is_now is_next =
    let step = step_listed_so (get_or listed taken none) in
    is_next ∙ ap (device_after step) is_now
    ∙ sym
    (ap (λ (steps : List Step). all_completed steps start)
    (next_listed listed taken none within)
    ∙ one_more_step (steps_of taken listed) step start)
