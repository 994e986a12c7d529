-- Pages made blank, one after another.
use Rattle.std.proofs.Common.{◌≡◌, ◌≢◌, ◌⊎◌, inl, inr, ℕ, zero, suc, ◌+◌, ◌-◌, ◌<◌, ◌≤◌, drop, List, [], Option, Some, None, true, false, not, length, replicate, refl, sym, subst, ap, ◌∙◌, arith}
use Rattle.std.proofs.lemmas.Bool.{cases_Bool, cases_eq, cases_lt, eqb-true, not-false}
use Rattle.std.proofs.lemmas.List.{get_or-drop, get_or-set_other, get_or-set_same, get_or_past, length-drop, length-set}
use Rattle.std.proofs.lemmas.List.Elements.{All-from_get_or}
use Rattle.std.proofs.lemmas.List.Folds.{list_any_at, list_any_none}
use Rattle.ee_flash.specs.Device.{all_ones}
use Rattle.ee_flash.specs.Size.{page_count}
use Rattle.ee_nor.specs.Coded.Coded.{AllOverCoded}
use Rattle.ee_nor.specs.Coded.EccNor.{EccDevice, EccNumber, EraseEcc, IsEccCutIn, IsEccFormed, IsEccNumber, IsEccUntouched, ecc_in, ecc_page, whole_number, with_ecc_erased}
use Rattle.ee_nor.specs.Coded.Wiping.{IsEccWipeCut, ecc_wiped_below, is_ecc_blank, is_ecc_written, is_other_read, with_all_ecc_wiped, with_ecc_wiped}
use Rattle.ee_nor.proofs.CodedLemmas.Steps.{blank_number, number_formed}

-- a page of which each number reads as erased is blank, and the other way round
pub blank_page : (numbers : List EccNumber) (count : ℕ) → length numbers ≡ count
    → ((at : ℕ) → at < count → is_ecc_written (ecc_in numbers at) ≡ false)
    → is_ecc_blank numbers ≡ true
blank_page numbers count long each =
    ap not
    (list_any_none is_ecc_written numbers
    (All-from_get_or (λ number. is_ecc_written number ≡ false) numbers (whole_number all_ones)
    (λ at h. each at (omega arith))))

pub not_blank_page : (numbers : List EccNumber) (at : ℕ) → at < length numbers
    → is_ecc_written (ecc_in numbers at) ≡ true → is_ecc_blank numbers ≡ false
not_blank_page numbers at within written =
    ap not (list_any_at is_ecc_written numbers at (whole_number all_ones) within written)

-- the same behind a place
pub blank_from : (numbers : List EccNumber) (from count : ℕ) → length numbers ≡ count
    → ((at : ℕ) → from ≤ at → at < count → is_ecc_written (ecc_in numbers at) ≡ false)
    → is_ecc_blank (drop from numbers) ≡ true
blank_from numbers from count long each =
    blank_page (drop from numbers) (count - from) (length-drop from numbers ∙ omega (arith, long)) (λ at h.
    ap is_ecc_written (get_or-drop from numbers at (whole_number all_ones))
    ∙ each (from + at) (omega arith) (omega (arith, h)))

pub not_blank_from : (numbers : List EccNumber) (from at : ℕ) → from ≤ at → at < length numbers
    → is_ecc_written (ecc_in numbers at) ≡ true → is_ecc_blank (drop from numbers) ≡ false
not_blank_from numbers from at behind within written =
    let there : from + (at - from) ≡ at = omega (arith, behind) in
    not_blank_page (drop from numbers) (at - from)
    (omega (arith, length-drop from numbers, behind, within))
    (ap is_ecc_written (get_or-drop from numbers (at - from) (whole_number all_ones)
    ∙ ap (ecc_in numbers) there) ∙ written)

pub page_long : (ecc : EccDevice) (page : ℕ) → IsEccFormed ecc → page < page_count ecc.size
    → length (ecc_page ecc page) ≡ ecc.size.words
page_long ecc page formed in_range =
    formed.page_lengths page [] (omega (arith, formed.image_length))

pub reads_erased : (reading : Option ℕ) → is_other_read reading ≡ false → reading ≡ Some all_ones
reads_erased None is = cc
reads_erased (Some number) is = ap Some (eqb-true _ _ (not-false _ is))

-- what reads as erased is erased
erased_whole : (number : EccNumber) → IsEccNumber number → number.reading ≡ Some all_ones
    → number ≡ whole_number all_ones
erased_whole number formed is =
    let cells = (formed.reads all_ones is).erased refl in
    λ i. record { cells = cells i; reading = is i }

blank_at : (numbers : List EccNumber) (at : ℕ) → IsEccNumber (ecc_in numbers at)
    → is_ecc_blank numbers ≡ true → ecc_in numbers at ≡ whole_number all_ones
blank_at numbers at formed blank = elim (cases_lt at (length numbers)) [
  | inl within ↦ elim (cases_Bool (is_ecc_written (ecc_in numbers at))) [
    | inl written ↦ let no : true ≡ false =
        sym blank ∙ not_blank_page numbers at within written in cc
    | inr erased ↦ erased_whole (ecc_in numbers at) formed
        (reads_erased (ecc_in numbers at).reading erased)
  ]
  | inr past ↦ get_or_past numbers at (whole_number all_ones) past
]

-- ---- one page

module _ (page : ℕ) (ecc : EccDevice) where
  wiped_one : (with_ecc_wiped page ecc ≡ ecc) × (is_ecc_blank (ecc_page ecc page) ≡ true)
      ⊎ (with_ecc_wiped page ecc ≡ with_ecc_erased page ecc)
  wiped_one = elim (cases_Bool (is_ecc_blank (ecc_page ecc page))) [
    | inl blank ↦ inl (rw blank refl, blank)
    | inr some ↦ inr (rw some refl)
  ]

  same_size : (with_ecc_wiped page ecc).size ≡ ecc.size
  same_size = elim wiped_one [
    | inl blank ↦ ap (λ (ecc : EccDevice). ecc.size) blank.0
    | inr erased ↦ ap (λ (ecc : EccDevice). ecc.size) erased
  ]

  same_power : (with_ecc_wiped page ecc).on ≡ ecc.on
  same_power = elim wiped_one [
    | inl blank ↦ ap (λ (ecc : EccDevice). ecc.on) blank.0
    | inr erased ↦ ap (λ (ecc : EccDevice). ecc.on) erased
  ]

  as_long : length (with_ecc_wiped page ecc).image ≡ length ecc.image
  as_long = elim wiped_one [
    | inl blank ↦ ap (λ (ecc : EccDevice). length ecc.image) blank.0
    | inr erased ↦ ap (λ (ecc : EccDevice). length ecc.image) erased ∙ length-set ecc.image page _
  ]

  others_stay : (other : ℕ) → other ≢ page
      → ecc_page (with_ecc_wiped page ecc) other ≡ ecc_page ecc other
  others_stay other apart = elim wiped_one [
    | inl blank ↦ ap (λ (ecc : EccDevice). ecc_page ecc other) blank.0
    | inr erased ↦ ap (λ (ecc : EccDevice). ecc_page ecc other) erased
        ∙ get_or-set_other ecc.image page other _ [] apart
  ]

  erased_there : page < length ecc.image → (at : ℕ) → IsEccNumber (ecc_in (ecc_page ecc page) at)
      → ecc_in (ecc_page (with_ecc_wiped page ecc) page) at ≡ whole_number all_ones
  erased_there within at formed = elim wiped_one [
    | inl blank ↦ rw blank.0 (blank_at (ecc_page ecc page) at formed blank.1)
    | inr erased ↦ rw erased
        (rw (get_or-set_same ecc.image page (replicate ecc.size.words (whole_number all_ones)) []
        within) (blank_number ecc.size.words at))
  ]

-- ---- the pages below one

pub wiped_none : (ecc : EccDevice) → ecc_wiped_below 0 ecc ≡ ecc
unfolding ecc_wiped_below
wiped_none ecc = refl

pub wiped_more : (page : ℕ) (ecc : EccDevice)
    → ecc_wiped_below (page + 1) ecc ≡ with_ecc_wiped page (ecc_wiped_below page ecc)
unfolding ecc_wiped_below
wiped_more page ecc = let next : page + 1 ≡ suc page = omega arith in rw next refl

pub wiped_size : (page : ℕ) (ecc : EccDevice) → (ecc_wiped_below page ecc).size ≡ ecc.size
unfolding ecc_wiped_below
wiped_size zero ecc = refl
wiped_size (suc page) ecc = same_size page (ecc_wiped_below page ecc) ∙ wiped_size page ecc

pub wiped_power : (page : ℕ) (ecc : EccDevice) → (ecc_wiped_below page ecc).on ≡ ecc.on
unfolding ecc_wiped_below
wiped_power zero ecc = refl
wiped_power (suc page) ecc = same_power page (ecc_wiped_below page ecc) ∙ wiped_power page ecc

pub wiped_length : (page : ℕ) (ecc : EccDevice)
    → length (ecc_wiped_below page ecc).image ≡ length ecc.image
unfolding ecc_wiped_below
wiped_length zero ecc = refl
wiped_length (suc page) ecc = as_long page (ecc_wiped_below page ecc) ∙ wiped_length page ecc

-- pages from one on are as they were
wiped_same : (page : ℕ) (ecc : EccDevice) (other : ℕ) → page ≤ other
    → ecc_page (ecc_wiped_below page ecc) other ≡ ecc_page ecc other
unfolding ecc_wiped_below
wiped_same zero ecc other past = refl
wiped_same (suc page) ecc other past =
    others_stay page (ecc_wiped_below page ecc) other (λ same. omega (arith, same, past))
    ∙ wiped_same page ecc other (omega (arith, past))

pub wiped_number : (page : ℕ) (ecc : EccDevice) → IsEccFormed ecc → page ≤ length ecc.image
    → (other at : ℕ) → other < page
    → ecc_in (ecc_page (ecc_wiped_below page ecc) other) at ≡ whole_number all_ones
unfolding ecc_wiped_below
wiped_number zero ecc formed few other at below = absurd (omega arith)
wiped_number (suc page) ecc formed few other at below =
    let before = ecc_wiped_below page ecc in
    elim (cases_eq other page) [
      | inl same ↦
          let within : page < length ecc.image = omega arith in
          let as_before : ecc_page ecc page ≡ ecc_page before page =
          sym (wiped_same page ecc page (omega arith)) in
          let number = subst (λ (numbers : List EccNumber). IsEccNumber (ecc_in numbers at))
          as_before (number_formed (ecc_page ecc page) at (formed.numbers_fit page [] within)) in
          rw same (erased_there page before (omega (arith, wiped_length page ecc)) at number)
      | inr apart ↦ rw (others_stay page before other apart)
          (wiped_number page ecc formed (omega arith) other at (omega arith))
    ]

-- once each page is wiped, each number is erased
pub all_wiped : (ecc : EccDevice) → IsEccFormed ecc → (page at : ℕ)
    → ecc_in (ecc_page (with_all_ecc_wiped ecc) page) at ≡ whole_number all_ones
all_wiped ecc formed page at =
    let count = page_count ecc.size in
    elim (cases_lt page count) [
      | inl within ↦
          wiped_number count ecc formed (omega (arith, formed.image_length)) page at within
      | inr past ↦ rw
          (get_or_past (with_all_ecc_wiped ecc).image page []
          (omega (arith, formed.image_length, wiped_length count ecc))) refl
    ]

pub wiped_is_over : (ecc : EccDevice) → IsEccFormed ecc → AllOverCoded (with_all_ecc_wiped ecc)
wiped_is_over ecc formed page at none =
    ap (λ (number : EccNumber). number.cells) (all_wiped ecc formed page at)

-- power was cut in the erase of a page
pub wipe_left : (page : ℕ) (old mid new : EccDevice) → old.on ≡ true
    → mid ≡ ecc_wiped_below page old
    → page < page_count old.size → is_ecc_blank (ecc_page mid page) ≡ false
    → IsEccCutIn (EraseEcc page) mid new ⊎ IsEccUntouched mid new → IsEccWipeCut old new
wipe_left page old mid new on is in_range not_blank (inl cut) = record {
  page = page;
  in_range = in_range;
  not_blank = subst (λ mid. is_ecc_blank (ecc_page mid page) ≡ false) is not_blank;
  cut = subst (λ mid. IsEccCutIn (EraseEcc page) mid new) is cut;
}
wipe_left page old mid new on is in_range not_blank (inr untouched) =
    let no : true ≡ false =
    sym on ∙ sym (wiped_power page old) ∙ sym (ap (λ (ecc : EccDevice). ecc.on) is)
    ∙ untouched.was_off in
    cc

-- one page more: it was blank, or it was erased
pub wiped_blank : (page : ℕ) (old mid : EccDevice) → mid ≡ ecc_wiped_below page old
    → is_ecc_blank (ecc_page mid page) ≡ true → mid ≡ ecc_wiped_below (page + 1) old
wiped_blank page old mid is blank =
    let same : with_ecc_wiped page mid ≡ mid = rw blank refl in
    sym (wiped_more page old ∙ ap (with_ecc_wiped page) (sym is) ∙ same)

pub wiped_erased : (page : ℕ) (old mid new : EccDevice) → mid ≡ ecc_wiped_below page old
    → is_ecc_blank (ecc_page mid page) ≡ false → new ≡ with_ecc_erased page mid
    → new ≡ ecc_wiped_below (page + 1) old
wiped_erased page old mid new is not_blank done =
    let erased : with_ecc_wiped page mid ≡ with_ecc_erased page mid = rw not_blank refl in
    done ∙ sym (wiped_more page old ∙ ap (with_ecc_wiped page) (sym is) ∙ erased)
