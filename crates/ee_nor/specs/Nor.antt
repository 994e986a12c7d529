-- A flash of plain numbers, as a value, what a step does to it, and what a cut in
-- the step may leave.
use Rattle.std.specs.Prelude.{◌≡◌, ◌≢◌, ◌≤◌, ℕ, ◌*◌, ◌+◌, Bool, true, false, Option, Some, List, [], length, replicate, option_map, bit_and, slice_index, slice_index_or, slice_set}
use Rattle.std.specs.List.{All}
use Rattle.ee_flash.specs.Size.{Size, IsWithinLimits, page_count}
use Rattle.ee_flash.specs.Device.{all_ones}
use Rattle.ee_flash.specs.Step.{one_more}

-- ---- the device

-- its size in words, each of which takes two numbers, whether an erase first clears the cells of
-- its page, its pages (those of set 0, then those of set 1) with the numbers of each, how often
-- each page was erased, how often power was cut in a step, how often it still may be (a number, or
-- any), and whether it is on
pub record NorDevice : Type 0 where
  pub size : Size
  pub clears_first : Bool
  pub image : List (List ℕ)
  pub wear : List ℕ
  pub cuts : ℕ
  pub cuts_left : Option ℕ
  pub on : Bool

-- the numbers of a page, of which there are two for each word
abbrev pub number_count : Size → ℕ
number_count size = 2 * size.words

-- the numbers of a page
abbrev pub numbers_at : NorDevice → ℕ → List ℕ
numbers_at device page = slice_index_or device.image page []

-- the number at a place of a page, all ones past the end
abbrev pub number_in : List ℕ → ℕ → ℕ
number_in numbers at = slice_index_or numbers at all_ones

abbrev pub number_at : NorDevice → ℕ → ℕ → ℕ
number_at device page at = number_in (numbers_at device page) at

abbrev pub IsNorNumber : ℕ → Type 0
IsNorNumber number = number ≤ all_ones

-- the device is within the limits, its lists have the lengths of its size, and its
-- numbers fit 64 bits
pub record IsNorFormed (device : NorDevice) : Type 0 where
  pub within_limits : IsWithinLimits device.size
  pub image_length : length device.image ≡ page_count device.size
  pub page_lengths : All (λ page. length page ≡ number_count device.size) device.image
  pub numbers_fit : All (All IsNorNumber) device.image
  pub wear_length : length device.wear ≡ page_count device.size
  pub wear_fits : All IsNorNumber device.wear
  pub cuts_fit : IsNorNumber device.cuts
  pub cuts_left_fit : (left : ℕ) → device.cuts_left ≡ Some left → IsNorNumber left

-- ---- steps

-- a step: a number programmed, or a page erased
pub data NorStep : Type 0 where
  ProgramNumber : (page at number : ℕ) → NorStep
  EraseNumbers : (page : ℕ) → NorStep

-- with these numbers in that page
abbrev pub with_numbers : ℕ → List ℕ → NorDevice → NorDevice
with_numbers page numbers device = record device { image = slice_set device.image page numbers }

-- with this number in that place
abbrev pub with_number : ℕ → ℕ → ℕ → NorDevice → NorDevice
with_number page at number device =
    with_numbers page (slice_set (numbers_at device page) at number) device

-- with the page's wear one more
abbrev pub with_nor_page_worn : ℕ → NorDevice → NorDevice
with_nor_page_worn page device =
    record device { wear = slice_set device.wear page (one_more (slice_index device.wear page)) }

-- with all ones in a page, which is what erasing makes of it
abbrev pub with_numbers_erased : ℕ → NorDevice → NorDevice
with_numbers_erased page device =
    with_nor_page_worn page
    (with_numbers page (replicate (number_count device.size) all_ones) device)

-- the device after the whole step
abbrev pub nor_after : NorStep → NorDevice → NorDevice
nor_after (ProgramNumber page at number) device = with_number page at number device
nor_after (EraseNumbers page) device = with_numbers_erased page device

-- one number has every bit of another
abbrev pub HasBits : ℕ → ℕ → Type 0
HasBits number other = bit_and number other ≡ other

-- a page in which each number has every bit that it had
pub record KeepsBits (old new : List ℕ) : Type 0 where
  pub as_long : length new ≡ length old
  pub each : (at : ℕ) → HasBits (number_in new at) (number_in old at)

-- A page in which no two numbers of a word are each other's complement, but where both stood there.
-- All ones with 0 is no value.
pub record MakesNoPair (old new : List ℕ) : Type 0 where
  pub as_long : length new ≡ length old
  pub each : (word : ℕ) → number_in new (2 * word) ≢ all_ones
      → number_in new (2 * word) + number_in new (2 * word + 1) ≡ all_ones
      → (number_in new (2 * word) ≡ number_in old (2 * word))
      × (number_in new (2 * word + 1) ≡ number_in old (2 * word + 1))

-- What a cut in an erase may leave of its page. Where cells go from zero to one alone, each number
-- has every bit that it had. Where the flash clears all cells first, a number may have any bits,
-- and only a whole pair is not made.
abbrev pub MayEraseLeave : Bool → List ℕ → List ℕ → Type 0
MayEraseLeave true old new = MakesNoPair old new
MayEraseLeave false old new = KeepsBits old new

-- What a cut in a step may leave of the pages. Cells go from one to zero while a number is
-- programmed, so a program leaves a number that has every bit of the one asked for. All else stays.
abbrev pub MayLeaveNumbers : NorStep → NorDevice → NorDevice → Type 0
MayLeaveNumbers (ProgramNumber page at number) old new =
    HasBits (number_at new page at) number
    × (new.image ≡ (with_number page at (number_at new page at) old).image)
MayLeaveNumbers (EraseNumbers page) old new =
    MayEraseLeave old.clears_first (numbers_at old page) (numbers_at new page)
    × (new.image ≡ (with_numbers page (numbers_at new page) old).image)

-- power was cut in this step
pub record IsNorCutIn (step : NorStep) (old new : NorDevice) : Type 0 where
  pub was_on : old.on ≡ true
  pub is_off : new.on ≡ false
  pub same_size : new.size ≡ old.size
  pub same_kind : new.clears_first ≡ old.clears_first
  pub image : MayLeaveNumbers step old new
  pub wear : new.wear ≡ (nor_after step old).wear
  pub cuts : new.cuts ≡ one_more old.cuts
  -- where the cuts left are a number, there was one more
  pub cuts_left : old.cuts_left ≡ option_map (λ left. left + 1) new.cuts_left

-- power was off, and nothing changed
pub record IsNorUntouched (old new : NorDevice) : Type 0 where
  pub was_off : old.on ≡ false
  pub same : new ≡ old
