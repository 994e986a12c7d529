-- A step of words is a step of numbers.
use Rattle.std.proofs.Common.{rules, ◌≡◌, ◌⊎◌, inl, inr, ℕ, ◌<◌, ◌≤◌, List, [], length, get_or, set, replicate, map, Option, Some, None, Result, Ok, Err, OnOk, OnErr, refl, sym, ap, ◌∙◌, arith}
use Rattle.std.proofs.lemmas.Bool.{cases_eq, cases_lt}
use Rattle.std.proofs.lemmas.List.{ext_get_or, get_or-map, get_or_past, get_or-replicate, get_or-set_other, get_or-set_same, length-map, length-replicate, map-set, set-get_or, set_past}
use Rattle.std.specs.Prelude.{count_ones, bit_xor}
use Rattle.std.specs.Int.Bits.{xor_self}
use Rattle.std.specs.Int.Count.{ones-ones}
use Rattle.std.specs.List.{All}
use Rattle.std.proofs.lemmas.Option.{same_Some}
use Rattle.ee_flash.specs.Device.{Device, IsBelowAllOnes, all_ones, page_at, word_at}
use Rattle.ee_flash.specs.Numbers.{IsStoreNumber}
use Rattle.ee_flash.specs.Size.{Size, page_count}
use Rattle.ee_flash.specs.Step.{Erase, IsCutIn, IsPartlyErased, IsUntouched, MayLeave, Program, with_page_erased, with_word, with_word_programmed}
use Rattle.ee_flash.specs.declared.word.Word.{Word}
use Rattle.ee_flash.specs.declared.word.Word.TheVariants.{Erased, Held, Torn}
use Rattle.ee_flash.proofs.Public.{some_more}
use Rattle.ee_nor.specs.Coded.Coded.{AllOverCoded, AreOverCoded, IsCodedSafe, IsOverCoded, MayEccBeCut, coded_device, coded_number, payload_of_number, word_of_ecc, word_read}
use Rattle.ee_nor.specs.Coded.EccNor.{EccDevice, EccNumber, EccStep, EraseEcc, IsEccCutIn, IsEccFormed, IsEccNumber, IsEccUntouched, MayEraseLeaveEcc, ProgramEcc, ecc_at, ecc_in, ecc_page, whole_number, with_ecc_erased, with_ecc_number}
use Rattle.ee_nor.specs.Coded.Formed.{coded_cases, read_below}
use Rattle.ee_nor.proofs.CodedLemmas.Numbers.{erase_cut, over_coded, over_kept, payload_fits, program_cut, reads_back}

abbrev erased_number : EccNumber
erased_number = whole_number all_ones

-- ---- cells over coded words

pub over_set : (numbers : List EccNumber) (at : ℕ) (number : EccNumber) → AreOverCoded numbers
    → IsOverCoded number.cells → AreOverCoded (set numbers at number)
over_set numbers at number over new other = elim (cases_eq other at) [
  | inl same ↦ elim (cases_lt at (length numbers)) [
    | inl within ↦ rw (same, get_or-set_same numbers at number erased_number within) new
    | inr past ↦ rw (set_past numbers at number past) (over other)
  ]
  | inr apart ↦ rw (get_or-set_other numbers at other number erased_number apart) (over other)
]

pub over_with : (ecc new : EccDevice) (page : ℕ) (numbers : List EccNumber) → AllOverCoded ecc
    → AreOverCoded numbers → new.image ≡ set ecc.image page numbers → AllOverCoded new
over_with ecc new page numbers over changed is other =
    rw is (elim (cases_eq other page) [
      | inl same ↦ elim (cases_lt page (length ecc.image)) [
        | inl within ↦ rw (same, get_or-set_same ecc.image page numbers [] within) changed
        | inr past ↦ rw (set_past ecc.image page numbers past) (over other)
      ]
      | inr apart ↦ rw (get_or-set_other ecc.image page other numbers [] apart) (over other)
    ])

pub blank_number : (count at : ℕ) → ecc_in (replicate count erased_number) at ≡ erased_number
blank_number count at = elim (cases_lt at count) [
  | inl below ↦ get_or-replicate count at erased_number erased_number below
  | inr past ↦ get_or_past (replicate count erased_number) at erased_number
      (omega (arith, length-replicate count erased_number))
]

pub over_blank : (count : ℕ) → AreOverCoded (replicate count erased_number)
over_blank count at none = ap (λ (number : EccNumber). number.cells) (blank_number count at)

pub over_after : (old new : List EccNumber) → MayEraseLeaveEcc old new
    → ((at : ℕ) → IsEccNumber (ecc_in new at)) → AreOverCoded old → AreOverCoded new
over_after old new left fits over at =
    over_kept (ecc_in old at).cells (ecc_in new at).cells (fits at).cells_fit (left.keeps_ones at)
    (over at)

-- ---- numbers

turned : (read : ℕ) → all_ones ≡ read → bit_xor all_ones read ≡ 0
turned read same = ap (λ (k : ℕ). bit_xor all_ones k) (sym same) ∙ xor_self all_ones

erased_formed : IsEccNumber erased_number
erased_formed = record {
  cells_fit = omega arith;
  reads = λ read is. let same : all_ones ≡ read = same_Some all_ones read is in record {
    fits = omega (arith, same);
    near = omega (arith, ap count_ones (turned read same), ones-ones 0);
    erased = λ erased. refl;
  };
}

pub number_formed : (numbers : List EccNumber) (at : ℕ) → All IsEccNumber numbers
    → IsEccNumber (ecc_in numbers at)
number_formed numbers at each = elim (cases_lt at (length numbers)) [
  | inl within ↦ each at erased_number within
  | inr past ↦ rw (get_or_past numbers at erased_number past) erased_formed
]

-- ---- words

pub word_there : (ecc : EccDevice) (page at : ℕ) → IsEccFormed ecc → page < page_count ecc.size
    → at < ecc.size.words → word_at (coded_device ecc) page at ≡ word_of_ecc ecc.size (ecc_at ecc page at)
word_there ecc page at formed in_range within =
    let below : page < length ecc.image = omega (arith, formed.image_length) in
    let long : length (ecc_page ecc page) ≡ ecc.size.words = formed.page_lengths page [] below in
    let as_word = word_of_ecc ecc.size in
    ap (λ (those : List Word). get_or those at Erased)
    (get_or-map (map as_word) ecc.image page [] [] below)
    ∙ get_or-map as_word (ecc_page ecc page) at erased_number Erased (omega (arith, long))

pub there_below : (ecc : EccDevice) (page at : ℕ) (read : Word) → IsEccFormed ecc
    → page < page_count ecc.size → read ≡ word_of_ecc ecc.size (ecc_at ecc page at)
    → IsBelowAllOnes read
there_below ecc page at read formed in_range is =
    let below : page < length ecc.image = omega (arith, formed.image_length) in
    rw is (read_below ecc.size (ecc_at ecc page at)
    (number_formed (ecc_page ecc page) at (formed.numbers_fit page [] below)))

-- the words of a page, place by place
words_in : (size : Size) (numbers : List EccNumber) (at : ℕ)
    → get_or (map (word_of_ecc size) numbers) at Erased ≡ word_of_ecc size (ecc_in numbers at)
words_in size numbers at =
    let as_word = word_of_ecc size in
    elim (cases_lt at (length numbers)) [
      | inl below ↦ get_or-map as_word numbers at erased_number Erased below
      | inr past ↦ get_or_past (map as_word numbers) at Erased
          (omega (arith, length-map numbers as_word))
          ∙ sym (ap as_word (get_or_past numbers at erased_number past))
    ]

left_words : (size : Size) (old new : List EccNumber) → MayEraseLeaveEcc old new
    → ((at : ℕ) → IsEccNumber (ecc_in old at)) → ((at : ℕ) → IsEccNumber (ecc_in new at))
    → AreOverCoded old → IsPartlyErased (map (word_of_ecc size) old) (map (word_of_ecc size) new)
left_words size old new left fits new_fits over = record {
  as_long =
      length-map new (word_of_ecc size) ∙ left.as_long
      ∙ sym (length-map old (word_of_ecc size));
  each = λ at. rw (words_in size new at, words_in size old at)
      (erase_cut size (ecc_in old at) (ecc_in new at).cells (ecc_in new at).reading (fits at).cells_fit
      (new_fits at).cells_fit (new_fits at).reads (over at) (left.keeps_ones at)
      (left.none_made_whole at));
}

reads : (size : Size) (reading : Option ℕ) → word_read size reading ≡ Erased
    → reading ≡ Some all_ones
reads size None is = cc
reads size (Some read) is = elim (coded_cases size read) [
  | inl erased ↦ ap Some erased.0
  | inr (inl held) ↦ let word = held.3 in cc
  | inr (inr torn) ↦ cc
]

erased_reads : (size : Size) (number : EccNumber) → word_of_ecc size number ≡ Erased
    → number.reading ≡ Some all_ones
erased_reads size number is = reads size number.reading is

module _ (ecc : EccDevice) (page at : ℕ) (formed : IsEccFormed ecc)
    (in_range : page < page_count ecc.size) (within : at < ecc.size.words) where
  abbrev with_it : EccNumber → List EccNumber
  with_it number = set (ecc_page ecc page) at number

  pub put : (number : EccNumber) → coded_device (with_ecc_number page at number ecc)
      ≡ with_word page at (word_of_ecc ecc.size number) (coded_device ecc)
  put number = search (rules, get_or-map, map-set)

  module _ (erased : word_at (coded_device ecc) page at ≡ Erased) where
    pub still_erased : (ecc_at ecc page at).reading ≡ Some all_ones
    still_erased =
        erased_reads ecc.size (ecc_at ecc page at) (sym (word_there ecc page at formed in_range within)
        ∙ erased)

    -- a word that is put where it stood
    same_word : (with_word page at Erased (coded_device ecc)).image ≡ (coded_device ecc).image
    same_word = search (rules, set-get_or)

    left_so : (value : ℕ) (word : Word) (new : Device)
        → new.image ≡ (with_word page at word (coded_device ecc)).image
        → (word ≡ Erased) ⊎ ((word ≡ Held value) ⊎ (word ≡ Torn))
        → MayLeave (Program page at value) (coded_device ecc) new
    left_so value word new is (inl none) =
        inl
        (is ∙ ap (λ (word : Word). (with_word page at word (coded_device ecc)).image) none
        ∙ same_word)
    left_so value word new is (inr (inl held)) =
        inr (inl (is ∙ ap (λ (word : Word). (with_word page at word
        (coded_device ecc)).image) held))
    left_so value word new is (inr (inr torn)) =
        inr (inr (is ∙ ap (λ (word : Word). (with_word page at word
        (coded_device ecc)).image) torn))

  module _ (value : ℕ) (new : EccDevice) (fits : value ≤ all_ones)
      (store : IsStoreNumber value) where
    pub done_word : new ≡ with_ecc_number page at (whole_number (coded_number ecc.size value)) ecc
        → coded_device new ≡ with_word_programmed page at value (coded_device ecc)
    done_word done =
        ap coded_device done ∙ put (whole_number (coded_number ecc.size value))
        ∙ ap (λ (word : Word). with_word page at word (coded_device ecc))
        (reads_back ecc.size value formed.within_limits fits store)

    pub over_done : AllOverCoded ecc
        → new ≡ with_ecc_number page at (whole_number (coded_number ecc.size value)) ecc → AllOverCoded new
    over_done over done =
        over_with ecc new page (with_it (whole_number (coded_number ecc.size value))) over
        (over_set (ecc_page ecc page) at (whole_number (coded_number ecc.size value)) (over page)
        (over_coded (payload_of_number ecc.size value) (payload_fits ecc.size value formed.within_limits fits)))
        (ap (λ (ecc : EccDevice). ecc.image) done)

    module _ (new_formed : IsEccFormed new)
        (cut : IsEccCutIn (ProgramEcc page at (coded_number ecc.size value)) ecc new) where
      left_formed : IsEccNumber (ecc_at new page at)
      left_formed =
          let size = ap page_count cut.same_size in
          let new_within : page < length new.image =
          omega (arith, new_formed.image_length, size, in_range) in
          number_formed (ecc_page new page) at (new_formed.numbers_fit page [] new_within)

      -- power was cut in the program
      pub cut_program : word_at (coded_device ecc) page at ≡ Erased
          → IsCutIn (Program page at value) (coded_device ecc) (coded_device new)
      cut_program erased =
          let left = ecc_at new page at in
          let image : (coded_device new).image
          ≡ (coded_device (with_ecc_number page at left ecc)).image =
          λ i. map (map (word_of_ecc (cut.same_size i))) (cut.image.1 i) in
          record {
            was_on = cut.was_on;
            is_off = cut.is_off;
            same_size = cut.same_size;
            image =
                left_so erased value (word_of_ecc ecc.size left) (coded_device new)
                (image ∙ ap (λ (device : Device). device.image) (put left))
                (program_cut ecc.size value left.cells left.reading formed.within_limits fits store left_formed.cells_fit
                left_formed.reads cut.image.0);
            wear = cut.wear;
            cuts = cut.cuts;
            cuts_left = cut.cuts_left;
            by_fuse = tt;
          }

      pub over_cut : AllOverCoded ecc → AllOverCoded new
      over_cut over =
          let left = ecc_at new page at in
          over_with ecc new page (with_it left) over
          (over_set (ecc_page ecc page) at left (over page)
          (over_kept (coded_number ecc.size value) left.cells left_formed.cells_fit cut.image.0
          (over_coded (payload_of_number ecc.size value) (payload_fits ecc.size value formed.within_limits fits))))
          cut.image.1

-- where a step was cut, it might be
might_be_cut : (ecc new : EccDevice) (step : EccStep) → IsEccCutIn step ecc new → MayEccBeCut ecc
might_be_cut ecc new step cut none = some_more new.cuts_left (sym none ∙ cut.cuts_left)

might_before : (ecc new : EccDevice) → new.cuts_left ≡ ecc.cuts_left → MayEccBeCut new
    → MayEccBeCut ecc
might_before ecc new same may none = may (same ∙ none)

safe_untouched : (ecc new : EccDevice) → IsCodedSafe ecc → IsEccUntouched ecc new → IsCodedSafe new
safe_untouched ecc new safe untouched = rw untouched.same safe

-- ---- what a program leaves

module _ (ecc new : EccDevice) (page at value : ℕ) (formed : IsEccFormed ecc)
    (new_formed : IsEccFormed new) (in_range : page < page_count ecc.size)
    (within : at < ecc.size.words) (fits : value ≤ all_ones) (store : IsStoreNumber value) where
  pub safe_programmed : {T E : Type 0} (result : Result T E) → IsCodedSafe ecc
      → OnOk result (new ≡ with_ecc_number page at (whole_number (coded_number ecc.size value)) ecc)
      → OnErr result
      (IsEccCutIn (ProgramEcc page at (coded_number ecc.size value)) ecc new ⊎ IsEccUntouched ecc new)
      → IsCodedSafe new
  safe_programmed (Ok x) safe done cut may =
      let before = might_before ecc new (ap (λ (ecc : EccDevice). ecc.cuts_left) done) may in
      over_done ecc page at formed in_range within value new fits store (safe before) done
  safe_programmed (Err e) safe done (inl cut) may =
      over_cut ecc page at formed in_range within value new fits store new_formed cut
      (safe (might_be_cut ecc new _ cut))
  safe_programmed (Err e) safe done (inr untouched) may =
      safe_untouched ecc new safe untouched may

  pub program_left : word_at (coded_device ecc) page at ≡ Erased
      → IsEccCutIn (ProgramEcc page at (coded_number ecc.size value)) ecc new ⊎ IsEccUntouched ecc new
      → IsCutIn (Program page at value) (coded_device ecc) (coded_device new)
      ⊎ IsUntouched (coded_device ecc) (coded_device new)
  program_left erased (inl cut) =
      inl
      (cut_program ecc page at formed in_range within value new fits store new_formed cut erased)
  program_left erased (inr untouched) =
      inr (record { was_off = untouched.was_off; same = ap coded_device untouched.same })

-- ---- what an erase leaves

map_blank : (size : Size) (count : ℕ)
    → map (word_of_ecc size) (replicate count erased_number) ≡ replicate count Erased
map_blank size count =
    let as_word = word_of_ecc size in
    let numbers = replicate count erased_number in
    let long = length-map numbers as_word ∙ length-replicate count erased_number in
    ext_get_or Erased _ _ (long ∙ sym (length-replicate count Erased)) (λ k h.
    let below : k < count = omega (arith, long) in
    get_or-map as_word numbers k erased_number Erased
    (omega (arith, length-replicate count erased_number))
    ∙ ap as_word (get_or-replicate count k erased_number erased_number below)
    ∙ sym (get_or-replicate count k Erased Erased below))

pub device_erased : (ecc : EccDevice) (page : ℕ)
    → coded_device (with_ecc_erased page ecc) ≡ with_page_erased page (coded_device ecc)
device_erased ecc page = search (rules, map-set, map_blank)

module _ (ecc new : EccDevice) (page : ℕ) (formed : IsEccFormed ecc) (new_formed : IsEccFormed new)
    (in_range : page < page_count ecc.size) (safe : IsCodedSafe ecc) where
  within_old : page < length ecc.image
  within_old = omega (arith, formed.image_length)

  old_formed : (at : ℕ) → IsEccNumber (ecc_in (ecc_page ecc page) at)
  old_formed at = number_formed (ecc_page ecc page) at (formed.numbers_fit page [] within_old)

  module _ (cut : IsEccCutIn (EraseEcc page) ecc new) where
    within_new : page < length new.image
    within_new =
        let size = ap page_count cut.same_size in
        omega (arith, new_formed.image_length, size, in_range)

    page_formed : (at : ℕ) → IsEccNumber (ecc_in (ecc_page new page) at)
    page_formed at =
        number_formed (ecc_page new page) at (new_formed.numbers_fit page [] within_new)

    cut_erase : IsCutIn (Erase page) (coded_device ecc) (coded_device new)
    cut_erase =
        let words = map (word_of_ecc ecc.size) in
        let new_words = map (word_of_ecc new.size) in
        let same : new_words (ecc_page new page) ≡ words (ecc_page new page) =
        ap (λ (size : Size). map (word_of_ecc size) (ecc_page new page)) cut.same_size in
        let there : page_at (coded_device ecc) page ≡ words (ecc_page ecc page) =
        get_or-map words ecc.image page [] [] within_old in
        let new_there : page_at (coded_device new) page ≡ words (ecc_page new page) =
        get_or-map new_words new.image page [] [] within_new ∙ same in
        record {
          was_on = cut.was_on;
          is_off = cut.is_off;
          same_size = cut.same_size;
          image = (
            rw (there, new_there) (left_words ecc.size (ecc_page ecc page) (ecc_page new page) cut.image.0
                old_formed page_formed (safe (might_be_cut ecc new _ cut) page)),
            (λ i. map (map (word_of_ecc (cut.same_size i))) (cut.image.1 i))
                ∙ rw new_there (map-set words ecc.image page (ecc_page new page)),
          );
          wear = cut.wear;
          cuts = cut.cuts;
          cuts_left = cut.cuts_left;
          by_fuse = tt;
        }

    safe_cut_erase : IsCodedSafe new
    safe_cut_erase may =
        let over = safe (might_be_cut ecc new _ cut) in
        over_with ecc new page (ecc_page new page) over
        (over_after (ecc_page ecc page) (ecc_page new page) cut.image.0 page_formed (over page))
        cut.image.1

  pub safe_erased : {T E : Type 0} (result : Result T E)
      → OnOk result (new ≡ with_ecc_erased page ecc)
      → OnErr result (IsEccCutIn (EraseEcc page) ecc new ⊎ IsEccUntouched ecc new)
      → IsCodedSafe new
  safe_erased (Ok x) done cut may =
      let before = might_before ecc new (ap (λ (ecc : EccDevice). ecc.cuts_left) done) may in
      over_with ecc new page (replicate ecc.size.words erased_number) (safe before)
      (over_blank ecc.size.words) (ap (λ (ecc : EccDevice). ecc.image) done)
  safe_erased (Err e) done (inl cut) may = safe_cut_erase cut may
  safe_erased (Err e) done (inr untouched) may = safe_untouched ecc new safe untouched may

  pub erase_left : IsEccCutIn (EraseEcc page) ecc new ⊎ IsEccUntouched ecc new
      → IsCutIn (Erase page) (coded_device ecc) (coded_device new)
      ⊎ IsUntouched (coded_device ecc) (coded_device new)
  erase_left (inl cut) = inl (cut_erase cut)
  erase_left (inr untouched) =
      inr (record { was_off = untouched.was_off; same = ap coded_device untouched.same })
