-- A flash of numbers that is blank, but for what a first start left, or is made so.
use Rattle.std.specs.Prelude.{◌≡◌, ◌<◌, ◌≤◌, ℕ, ◌==◌, drop, zero, suc, if◌then◌else◌, Bool, true, false, not, Option, Some, None, List}
use Rattle.std.specs.List.{list_any}
use Rattle.ee_flash.specs.Device.{all_ones}
use Rattle.ee_flash.specs.Size.{page_count}
use Rattle.ee_nor.specs.Coded.EccNor.{EccDevice, EccNumber, EccStep, EraseEcc, IsEccCutIn, ProgramEcc, ecc_page, with_ecc_erased}

-- it reads as something else than erased, or can't be read
abbrev pub is_other_read : Option ℕ → Bool
is_other_read None = true
is_other_read (Some number) = not (number == all_ones)

abbrev pub is_ecc_written : EccNumber → Bool
is_ecc_written number = is_other_read number.reading

-- each number of the page reads as erased
abbrev pub is_ecc_blank : List EccNumber → Bool
is_ecc_blank numbers = not (list_any is_ecc_written numbers)

-- each number reads as erased but the first two of page 0
pub record MayBeNew (ecc : EccDevice) : Type 0 where
  pub first : is_ecc_blank (drop 2 (ecc_page ecc 0)) ≡ true
  pub others : (page : ℕ) → 1 ≤ page → is_ecc_blank (ecc_page ecc page) ≡ true

-- a step of a first start: an erase, or a program of one of those two numbers
abbrev pub IsOfFirstStart : EccStep → Type 0
IsOfFirstStart (ProgramEcc page at number) = (page ≡ 0) × (at < 2)
IsOfFirstStart (EraseEcc page) = Unit {0}

-- Where a first start is cut, one may be made again.
abbrev pub NewStaysNew : Type 0
NewStaysNew =
    (step : EccStep) (old new : EccDevice) → IsOfFirstStart step → IsEccCutIn step old new
    → MayBeNew old → MayBeNew new

-- with a page erased that holds something; a blank one stays as it is
abbrev pub with_ecc_wiped : ℕ → EccDevice → EccDevice
with_ecc_wiped page ecc =
    if is_ecc_blank (ecc_page ecc page) then ecc else with_ecc_erased page ecc

-- with each page below this one wiped, from page 0 on
unfoldable pub ecc_wiped_below : ℕ → EccDevice → EccDevice
ecc_wiped_below zero ecc = ecc
ecc_wiped_below (suc page) ecc = with_ecc_wiped page (ecc_wiped_below page ecc)

-- with each page wiped
abbrev pub with_all_ecc_wiped : EccDevice → EccDevice
with_all_ecc_wiped ecc = ecc_wiped_below (page_count ecc.size) ecc

-- the pages below one that held something were wiped, and power was cut in the erase of that one
pub record IsEccWipeCut (old new : EccDevice) : Type 0 where
  pub page : ℕ
  pub in_range : page < page_count old.size
  pub not_blank : is_ecc_blank (ecc_page (ecc_wiped_below page old) page) ≡ false
  pub cut : IsEccCutIn (EraseEcc page) (ecc_wiped_below page old) new
