-- Pages made blank, one after another.
use Rattle.std.proofs.Common.{◌≡◌, ◌≢◌, ◌⊎◌, inl, inr, ℕ, zero, suc, ◌+◌, ◌*◌, ◌<◌, ◌≤◌, List, [], true, false, not, length, replicate, refl, sym, subst, ap, ◌∙◌, arith}
use Rattle.std.proofs.lemmas.Bool.{cases_Bool, cases_eq, cases_lt, eqb-true, not-false}
use Rattle.std.proofs.lemmas.List.{get_or-set_other, get_or-set_same, get_or_past, length-set}
use Rattle.std.proofs.lemmas.List.Elements.{All-from_get_or}
use Rattle.std.proofs.lemmas.List.Folds.{list_any_at, list_any_none}
use Rattle.ee_flash.specs.Device.{all_ones}
use Rattle.ee_flash.specs.Size.{page_count}
use Rattle.ee_nor.specs.Nor.{EraseNumbers, IsNorCutIn, IsNorFormed, IsNorUntouched, NorDevice, number_in, numbers_at, with_numbers_erased}
use Rattle.ee_nor.specs.Pairs.{NoLowPair}
use Rattle.ee_nor.specs.Wiping.{IsWipeCut, is_all_ones, is_programmed, with_page_wiped, with_all_wiped, wiped_below}
use Rattle.ee_nor.proofs.High.{blank_number}

-- a page of which each number reads all ones is blank, and the other way round
pub blank_page : (numbers : List ℕ) (count : ℕ) → length numbers ≡ count
    → ((at : ℕ) → at < count → is_programmed (number_in numbers at) ≡ false)
    → is_all_ones numbers ≡ true
blank_page numbers count long each =
    ap not
    (list_any_none is_programmed numbers
    (All-from_get_or (λ number. is_programmed number ≡ false) numbers all_ones
    (λ at h. each at (omega arith))))

pub not_blank_page : (numbers : List ℕ) (at : ℕ) → at < length numbers
    → is_programmed (number_in numbers at) ≡ true → is_all_ones numbers ≡ false
not_blank_page numbers at within written =
    ap not (list_any_at is_programmed numbers at all_ones within written)

blank_at : (numbers : List ℕ) (at : ℕ) → is_all_ones numbers ≡ true
    → number_in numbers at ≡ all_ones
blank_at numbers at blank = elim (cases_lt at (length numbers)) [
  | inl within ↦ elim (cases_Bool (is_programmed (number_in numbers at))) [
    | inl written ↦ let no : true ≡ false =
        sym blank ∙ not_blank_page numbers at within written in cc
    | inr erased ↦ eqb-true _ _ (not-false _ erased)
  ]
  | inr past ↦ get_or_past numbers at all_ones past
]

-- ---- one page

module _ (page : ℕ) (nor : NorDevice) where
  wiped_one : (with_page_wiped page nor ≡ nor) × (is_all_ones (numbers_at nor page) ≡ true)
      ⊎ (with_page_wiped page nor ≡ with_numbers_erased page nor)
  wiped_one = elim (cases_Bool (is_all_ones (numbers_at nor page))) [
    | inl blank ↦ inl (rw blank refl, blank)
    | inr some ↦ inr (rw some refl)
  ]

  same_size : (with_page_wiped page nor).size ≡ nor.size
  same_size = elim wiped_one [
    | inl blank ↦ ap (λ (nor : NorDevice). nor.size) blank.0
    | inr erased ↦ ap (λ (nor : NorDevice). nor.size) erased
  ]

  same_power : (with_page_wiped page nor).on ≡ nor.on
  same_power = elim wiped_one [
    | inl blank ↦ ap (λ (nor : NorDevice). nor.on) blank.0
    | inr erased ↦ ap (λ (nor : NorDevice). nor.on) erased
  ]

  as_long : length (with_page_wiped page nor).image ≡ length nor.image
  as_long = elim wiped_one [
    | inl blank ↦ ap (λ (nor : NorDevice). length nor.image) blank.0
    | inr erased ↦ ap (λ (nor : NorDevice). length nor.image) erased ∙ length-set nor.image page _
  ]

  others_stay : (other : ℕ) → other ≢ page
      → numbers_at (with_page_wiped page nor) other ≡ numbers_at nor other
  others_stay other apart = elim wiped_one [
    | inl blank ↦ ap (λ (nor : NorDevice). numbers_at nor other) blank.0
    | inr erased ↦ ap (λ (nor : NorDevice). numbers_at nor other) erased
        ∙ get_or-set_other nor.image page other _ [] apart
  ]

  erased_there : page < length nor.image → (at : ℕ)
      → number_in (numbers_at (with_page_wiped page nor) page) at ≡ all_ones
  erased_there within at = elim wiped_one [
    | inl blank ↦ rw blank.0 (blank_at (numbers_at nor page) at blank.1)
    | inr erased ↦ rw erased
        (rw (get_or-set_same nor.image page (replicate (2 * nor.size.words) all_ones) [] within)
        (blank_number (2 * nor.size.words) at))
  ]

-- ---- the pages below one

pub wiped_none : (nor : NorDevice) → wiped_below 0 nor ≡ nor
unfolding wiped_below
wiped_none nor = refl

pub wiped_more : (page : ℕ) (nor : NorDevice)
    → wiped_below (page + 1) nor ≡ with_page_wiped page (wiped_below page nor)
unfolding wiped_below
wiped_more page nor = let next : page + 1 ≡ suc page = omega arith in rw next refl

pub wiped_size : (page : ℕ) (nor : NorDevice) → (wiped_below page nor).size ≡ nor.size
unfolding wiped_below
wiped_size zero nor = refl
wiped_size (suc page) nor = same_size page (wiped_below page nor) ∙ wiped_size page nor

pub wiped_power : (page : ℕ) (nor : NorDevice) → (wiped_below page nor).on ≡ nor.on
unfolding wiped_below
wiped_power zero nor = refl
wiped_power (suc page) nor = same_power page (wiped_below page nor) ∙ wiped_power page nor

pub wiped_length : (page : ℕ) (nor : NorDevice)
    → length (wiped_below page nor).image ≡ length nor.image
unfolding wiped_below
wiped_length zero nor = refl
wiped_length (suc page) nor = as_long page (wiped_below page nor) ∙ wiped_length page nor

pub wiped_number : (page : ℕ) (nor : NorDevice) → page ≤ length nor.image → (other at : ℕ)
    → other < page → number_in (numbers_at (wiped_below page nor) other) at ≡ all_ones
unfolding wiped_below
wiped_number zero nor few other at below = absurd (omega arith)
wiped_number (suc page) nor few other at below =
    let before = wiped_below page nor in
    elim (cases_eq other page) [
      | inl same ↦ rw same (erased_there page before (omega (arith, wiped_length page nor)) at)
      | inr apart ↦ rw (others_stay page before other apart)
          (wiped_number page nor (omega arith) other at (omega arith))
    ]

-- once each page is wiped, each number is all ones
pub all_wiped : (nor : NorDevice) → IsNorFormed nor → (page at : ℕ)
    → number_in (numbers_at (with_all_wiped nor) page) at ≡ all_ones
all_wiped nor formed page at =
    let count = page_count nor.size in
    elim (cases_lt page count) [
      | inl within ↦ wiped_number count nor (omega (arith, formed.image_length)) page at within
      | inr past ↦ rw
          (get_or_past (with_all_wiped nor).image page []
          (omega (arith, formed.image_length, wiped_length count nor))) refl
    ]

pub wiped_is_high : (nor : NorDevice) → IsNorFormed nor → NoLowPair (with_all_wiped nor)
wiped_is_high nor formed page word = omega (arith, all_wiped nor formed page (2 * word))

-- power was cut in the erase of a page
pub wipe_left : (page : ℕ) (old mid new : NorDevice) → old.on ≡ true → mid ≡ wiped_below page old
    → page < page_count old.size → is_all_ones (numbers_at mid page) ≡ false
    → IsNorCutIn (EraseNumbers page) mid new ⊎ IsNorUntouched mid new → IsWipeCut old new
wipe_left page old mid new on is in_range not_blank (inl cut) = record {
  page = page;
  in_range = in_range;
  not_blank = subst (λ mid. is_all_ones (numbers_at mid page) ≡ false) is not_blank;
  cut = subst (λ mid. IsNorCutIn (EraseNumbers page) mid new) is cut;
}
wipe_left page old mid new on is in_range not_blank (inr untouched) =
    let no : true ≡ false =
    sym on ∙ sym (wiped_power page old) ∙ sym (ap (λ (nor : NorDevice). nor.on) is)
    ∙ untouched.was_off in
    cc

-- one page more: it was blank, or it was erased
pub wiped_blank : (page : ℕ) (old mid : NorDevice) → mid ≡ wiped_below page old
    → is_all_ones (numbers_at mid page) ≡ true → mid ≡ wiped_below (page + 1) old
wiped_blank page old mid is blank =
    let same : with_page_wiped page mid ≡ mid = rw blank refl in
    sym (wiped_more page old ∙ ap (with_page_wiped page) (sym is) ∙ same)

pub wiped_erased : (page : ℕ) (old mid new : NorDevice) → mid ≡ wiped_below page old
    → is_all_ones (numbers_at mid page) ≡ false → new ≡ with_numbers_erased page mid
    → new ≡ wiped_below (page + 1) old
wiped_erased page old mid new is not_blank done =
    let erased : with_page_wiped page mid ≡ with_numbers_erased page mid = rw not_blank refl in
    done ∙ sym (wiped_more page old ∙ ap (with_page_wiped page) (sym is) ∙ erased)
