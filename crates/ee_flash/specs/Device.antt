-- A flash device, as a value.
use Rattle.std.specs.Prelude.{◌≡◌, ◌≤◌, ◌<◌, ℕ, ◌-◌, ◌^◌, Bool, true, false, Option, Some, None, List, [], length, replicate, slice_index, slice_index_or}
use Rattle.std.specs.List.{All}
use Rattle.ee_flash.specs.Size.{Size, IsWithinLimits, page_count}
use Rattle.ee_flash.specs.declared.fuse.Fuse.{Fuse}
use Rattle.ee_flash.specs.declared.word.Word.{Word}
use Rattle.ee_flash.specs.declared.word.Word.TheVariants.{Erased, Held}

-- its size, the words of each page (of set 0, then of set 1), how often each was erased, how often
-- power was cut in a step, how often it still may be (a number, or any), what is known of its fuse
-- (nothing; that it has none; or the one that cuts a step), and whether it is on
pub record Device : Type 0 where
  pub size : Size
  pub image : List (List Word)
  pub wear : List ℕ
  pub cuts : ℕ
  pub cuts_left : Option ℕ
  pub fuse : Option (Option Fuse)
  pub on : Bool

-- a device of this size, never used: on, with every word erased, no wear, no cuts and none to come
abbrev pub blank_device : Size → Device
blank_device size = record {
  size = size;
  image = replicate (page_count size) (replicate size.words Erased);
  wear = replicate (page_count size) 0;
  cuts = 0;
  cuts_left = Some 0;
  fuse = Some None;
  on = true;
}

-- the words of a page
abbrev pub page_at : Device → ℕ → List Word
page_at device page = slice_index_or device.image page []

-- the word at a place of a page, erased past the end
abbrev pub word_at : Device → ℕ → ℕ → Word
word_at device page at = slice_index_or (page_at device page) at Erased

-- how often a page was erased
abbrev pub wear_at : Device → ℕ → ℕ
wear_at device page = slice_index device.wear page

abbrev pub IsOn : Device → Type 0
IsOn device = device.on ≡ true

abbrev pub IsOff : Device → Type 0
IsOff device = device.on ≡ false

-- the greatest number of 64 bits, where counts stop; no word holds it
abbrev pub all_ones : ℕ
all_ones = 2 ^ 64 - 1

-- what the word holds, if anything, is below all ones
abbrev pub IsBelowAllOnes : Word → Type 0
IsBelowAllOnes word = (value : ℕ) → word ≡ Held value → value < all_ones

-- the device is within the limits, its lists are as long as its size says, its numbers fit 64 bits
pub record IsFormed (device : Device) : Type 0 where
  pub within_limits : IsWithinLimits device.size
  pub image_length : length device.image ≡ page_count device.size
  pub page_lengths : All (λ page. length page ≡ device.size.words) device.image
  pub below_all_ones : All (All IsBelowAllOnes) device.image
  pub wear_length : length device.wear ≡ page_count device.size
  pub wear_fits : All (λ count. count ≤ all_ones) device.wear
  pub cuts_fit : device.cuts ≤ all_ones
  pub cuts_left_fit : (left : ℕ) → device.cuts_left ≡ Some left → left ≤ all_ones
