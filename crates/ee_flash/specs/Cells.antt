-- The words and wears that a device is made of.
use Rattle.std.specs.Prelude.{◌≡◌, ◌≢◌, ◌<◌, ℕ, ◌*◌, List, length, slice_index_or}
use Rattle.ee_flash.specs.Size.{Size, page_count}
use Rattle.ee_flash.specs.Device.{Device, all_ones, blank_device}
use Rattle.ee_flash.specs.Pages.{pages_of}
use Rattle.ee_flash.specs.declared.memory.CellFault.{CellFault}
use Rattle.ee_flash.specs.declared.memory.CellFault.TheVariants.{WrongLength, AllOnes}
use Rattle.ee_flash.specs.declared.word.Word.{Word}
use Rattle.ee_flash.specs.declared.word.Word.TheVariants.{Erased, Held}

-- there are as many words and wears as a device of this size has
pub record HasLengths (size : Size) (cells : List Word) (wear : List ℕ) : Type 0 where
  pub cells_length : length cells ≡ page_count size * size.words
  pub wear_length : length wear ≡ page_count size

-- the word there is the first that is held at all ones
pub record IsFirstAllOnes (cells : List Word) (at : ℕ) : Type 0 where
  pub within : at < length cells
  pub all_ones_there : slice_index_or cells at Erased ≡ Held all_ones
  pub none_before : (k : ℕ) → k < at → slice_index_or cells k Erased ≢ Held all_ones

-- why these are no words and wears of a device of this size
abbrev pub IsCellFault : Size → List Word → List ℕ → CellFault → Type 0
IsCellFault size cells wear WrongLength = ¬ HasLengths size cells wear
IsCellFault size cells wear (AllOnes at) = HasLengths size cells wear × IsFirstAllOnes cells at

-- a device of these words and wears that no step has met
abbrev pub device_from : Size → List Word → List ℕ → Device
device_from size cells wear =
    record (blank_device size) { image = pages_of size cells; wear = wear }
