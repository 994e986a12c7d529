-- A flash of numbers whose reads may correct a bit, as a value, what a step does to it, and what a
-- cut in the step may leave.
use Rattle.std.specs.Prelude.{◌≡◌, ◌≢◌, ◌≤◌, ◌+◌, ℕ, true, false, Bool, Option, Some, List, [], length, replicate, option_map, slice_index, slice_index_or, slice_set}
use Rattle.std.specs.List.{All}
use Rattle.ee_flash.specs.Size.{Size, IsWithinLimits, page_count}
use Rattle.ee_flash.specs.Device.{all_ones}
use Rattle.ee_flash.specs.Step.{one_more}
use Rattle.ee_nor.specs.Coded.Code.{HasOnes, MayReadAs}

-- ---- the device

-- a number of the flash: what its cells hold, and what it reads as, if it can be read
pub record EccNumber : Type 0 where
  pub cells : ℕ
  pub reading : Option ℕ

-- one that was programmed whole, or erased: it reads as its cells
abbrev pub whole_number : ℕ → EccNumber
whole_number number = record { cells = number; reading = Some number }

-- its size, its pages (those of set 0, then those of set 1) with the numbers of each, how often
-- each page was erased, how often power was cut in a step, how often it still may be (a number, or
-- any), and whether it is on
pub record EccDevice : Type 0 where
  pub size : Size
  pub image : List (List EccNumber)
  pub wear : List ℕ
  pub cuts : ℕ
  pub cuts_left : Option ℕ
  pub on : Bool

-- the numbers of a page, of which there is one for each word
abbrev pub ecc_page : EccDevice → ℕ → List EccNumber
ecc_page device page = slice_index_or device.image page []

-- the number at a place of a page, erased past the end
abbrev pub ecc_in : List EccNumber → ℕ → EccNumber
ecc_in numbers at = slice_index_or numbers at (whole_number all_ones)

abbrev pub ecc_at : EccDevice → ℕ → ℕ → EccNumber
ecc_at device page at = ecc_in (ecc_page device page) at

-- A number reads as what its cells hold, or as that with one bit turned. What reads as all ones is
-- erased: one that does so by a correction is told as one that can't be read.
pub record IsReadingOf (cells read : ℕ) : Type 0 where
  pub fits : read ≤ all_ones
  pub near : MayReadAs cells read
  pub erased : read ≡ all_ones → cells ≡ all_ones

pub record IsEccNumber (number : EccNumber) : Type 0 where
  pub cells_fit : number.cells ≤ all_ones
  pub reads : (read : ℕ) → number.reading ≡ Some read → IsReadingOf number.cells read

-- the device is within the limits, its lists have the lengths of its size, and its numbers fit 64
-- bits and read as their cells or one bit from them
pub record IsEccFormed (device : EccDevice) : Type 0 where
  pub within_limits : IsWithinLimits device.size
  pub image_length : length device.image ≡ page_count device.size
  pub page_lengths : All (λ page. length page ≡ device.size.words) device.image
  pub numbers_fit : All (All IsEccNumber) device.image
  pub wear_length : length device.wear ≡ page_count device.size
  pub wear_fits : All (λ count. count ≤ all_ones) device.wear
  pub cuts_fit : device.cuts ≤ all_ones
  pub cuts_left_fit : (left : ℕ) → device.cuts_left ≡ Some left → left ≤ all_ones

-- ---- steps

-- a step: a number programmed, or a page erased
pub data EccStep : Type 0 where
  ProgramEcc : (page at number : ℕ) → EccStep
  EraseEcc : (page : ℕ) → EccStep

-- with these numbers in that page
abbrev pub with_ecc_page : ℕ → List EccNumber → EccDevice → EccDevice
with_ecc_page page numbers device = record device { image = slice_set device.image page numbers }

-- with this number in that place
abbrev pub with_ecc_number : ℕ → ℕ → EccNumber → EccDevice → EccDevice
with_ecc_number page at number device =
    with_ecc_page page (slice_set (ecc_page device page) at number) device

-- with the page's wear one more
abbrev pub with_ecc_page_worn : ℕ → EccDevice → EccDevice
with_ecc_page_worn page device =
    record device { wear = slice_set device.wear page (one_more (slice_index device.wear page)) }

-- with all ones in a page, which is what erasing makes of it
abbrev pub with_ecc_erased : ℕ → EccDevice → EccDevice
with_ecc_erased page device =
    with_ecc_page_worn page
    (with_ecc_page page (replicate device.size.words (whole_number all_ones)) device)

-- the device after the whole step
abbrev pub ecc_after : EccStep → EccDevice → EccDevice
ecc_after (ProgramEcc page at number) device =
    with_ecc_number page at (whole_number number) device
ecc_after (EraseEcc page) device = with_ecc_erased page device

-- What a cut in an erase may leave of its page. Cells go from zero to one, so each number has every
-- one that it had, and one that reads as erased does so still. None is made whole: what reads, after
-- the cut, as a number whose ones were all there before, read so before, unless it reads as erased.
pub record MayEraseLeaveEcc (old new : List EccNumber) : Type 0 where
  pub as_long : length new ≡ length old
  pub keeps_ones : (at : ℕ) → HasOnes (ecc_in new at).cells (ecc_in old at).cells
  pub keeps_erased : (at : ℕ) → (ecc_in old at).reading ≡ Some all_ones
      → (ecc_in new at).reading ≡ Some all_ones
  pub none_made_whole : (at read : ℕ) → read ≢ all_ones → (ecc_in new at).reading ≡ Some read
      → HasOnes (ecc_in old at).cells read → (ecc_in old at).reading ≡ Some read

-- What a cut in a step may leave of the pages. Cells go from one to zero while a number is
-- programmed, so a program leaves cells that have every one of the number asked for. All else
-- stays.
abbrev pub MayLeaveEcc : EccStep → EccDevice → EccDevice → Type 0
MayLeaveEcc (ProgramEcc page at number) old new =
    HasOnes (ecc_at new page at).cells number
    × (new.image ≡ (with_ecc_number page at (ecc_at new page at) old).image)
MayLeaveEcc (EraseEcc page) old new =
    MayEraseLeaveEcc (ecc_page old page) (ecc_page new page)
    × (new.image ≡ (with_ecc_page page (ecc_page new page) old).image)

-- power was cut in this step
pub record IsEccCutIn (step : EccStep) (old new : EccDevice) : Type 0 where
  pub was_on : old.on ≡ true
  pub is_off : new.on ≡ false
  pub same_size : new.size ≡ old.size
  pub image : MayLeaveEcc step old new
  pub wear : new.wear ≡ (ecc_after step old).wear
  pub cuts : new.cuts ≡ one_more old.cuts
  -- where the cuts left are a number, there was one more
  pub cuts_left : old.cuts_left ≡ option_map (λ left. left + 1) new.cuts_left

-- power was off, and nothing changed
pub record IsEccUntouched (old new : EccDevice) : Type 0 where
  pub was_off : old.on ≡ false
  pub same : new ≡ old
