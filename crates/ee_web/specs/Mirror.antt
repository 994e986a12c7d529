-- What a mirror of a flash says: its words as they read, a flag for each, and the
-- wears of its pages.
use Rattle.std.specs.Prelude.{◌≡◌, ℕ, ◌*◌, ◌==◌, if◌then◌else◌, None, true, List, length, map}
use Rattle.std.specs.List.{zip}
use Rattle.ee_flash.specs.Device.{Device, all_ones}
use Rattle.ee_flash.specs.Pages.{pages_of}
use Rattle.ee_flash.specs.Size.{IsWithinLimits, Size, page_count}
use Rattle.ee_flash.specs.declared.word.Word.{Word}
use Rattle.ee_flash.specs.declared.word.Word.TheVariants.{Erased, Held, Torn}

-- what a number with its flag means: where the flag is not 0 the word could not be read; else all
-- ones are an erased word, and any other number is held
abbrev pub word_of_number : ℕ → ℕ → Word
word_of_number number flag =
    if flag == 0 then (if number == all_ones then Erased else Held number) else Torn

-- the words that numbers and their flags mean
unfoldable pub cells_of : List ℕ → List ℕ → List Word
cells_of words flags = map (λ cell. word_of_number cell.0 cell.1) (zip words flags)

-- the words, the flags and the wears are as many as a device of this size has
pub record IsMirror (size : Size) (words flags wears : List ℕ) : Type 0 where
  pub within_limits : IsWithinLimits size
  pub words_length : length words ≡ page_count size * size.words
  pub flags_length : length flags ≡ page_count size * size.words
  pub wears_length : length wears ≡ page_count size

-- the device that the mirror means: it is on, it was never cut, and it may be cut
-- any number of times
abbrev pub mirrored_device : Size → List ℕ → List ℕ → List ℕ → Device
mirrored_device size words flags wears = record {
  size = size;
  image = pages_of size (cells_of words flags);
  wear = wears;
  cuts = 0;
  cuts_left = None;
  fuse = None;
  on = true;
}

-- a mirror, as its caller lends it
pub record Mirror : Type 0 where
  pub words : List ℕ
  pub flags : List ℕ
  pub wears : List ℕ

abbrev pub mirror_of : List ℕ → List ℕ → List ℕ → Mirror
mirror_of words flags wears = record { words = words; flags = flags; wears = wears }

-- it has the lengths of this size
abbrev pub MirrorFits : Size → Mirror → Type 0
MirrorFits size mirror = IsMirror size mirror.words mirror.flags mirror.wears

-- what it means
abbrev pub device_in : Size → Mirror → Device
device_in size mirror = mirrored_device size mirror.words mirror.flags mirror.wears
