-- What a step does to a device, and what a cut in the step may leave.
use Rattle.std.specs.Prelude.{◌≡◌, ◌⊎◌, ℕ, ◌+◌, false, if◌then◌else◌, min, Option, Some, None, IsSomeAnd, List, length, replicate, option_map, slice_index, slice_index_or, slice_set}
use Rattle.ee_flash.specs.Device.{Device, page_at, IsOn, IsOff, all_ones}
use Rattle.ee_flash.specs.Fuse.{known_after, known_tear, left_page, left_word, next_tear}
use Rattle.ee_flash.specs.declared.fuse.Fuse.{Fuse}
use Rattle.ee_flash.specs.declared.fuse.Tear.{Tear}
use Rattle.ee_flash.specs.declared.word.Word.{Word}
use Rattle.ee_flash.specs.declared.word.Word.TheVariants.{Erased, Held, Torn}

-- one more, up to the greatest number of 64 bits
abbrev pub one_more : ℕ → ℕ
one_more count = min (count + 1) all_ones

-- with these words in that page
abbrev pub with_page : ℕ → List Word → Device → Device
with_page page words device = record device { image = slice_set device.image page words }

-- with this word in that place
abbrev pub with_word : ℕ → ℕ → Word → Device → Device
with_word page at word device = with_page page (slice_set (page_at device page) at word) device

-- with the page's wear one more
abbrev pub with_page_worn : ℕ → Device → Device
with_page_worn page device =
    record device { wear = slice_set device.wear page (one_more (slice_index device.wear page)) }

-- a known fuse has burnt down by a step
abbrev pub with_fuse_burnt : Device → Device
with_fuse_burnt device = record device { fuse = known_after device.fuse }

-- with a word programmed
abbrev pub with_word_programmed : ℕ → ℕ → ℕ → Device → Device
with_word_programmed page at value device =
    with_fuse_burnt (with_word page at (Held value) device)

-- with a page erased
abbrev pub with_page_erased : ℕ → Device → Device
with_page_erased page device =
    with_fuse_burnt
    (with_page_worn page (with_page page (replicate device.size.words Erased) device))

-- a step of a device: a word programmed or a page erased
pub data Step : Type 0 where
  Program : (page at value : ℕ) → Step
  Erase : (page : ℕ) → Step

-- the device after the whole step
abbrev pub device_after : Step → Device → Device
device_after (Program page at value) device = with_word_programmed page at value device
device_after (Erase page) device = with_page_erased page device

-- the device once power is cut, and no cut is left
abbrev pub with_power_cut : Device → Device
with_power_cut device =
    record device { cuts = one_more device.cuts; cuts_left = Some 0; fuse = Some None; on = false }

-- the device after a step that is torn so
abbrev pub device_after_tear : Step → Tear → Device → Device
device_after_tear (Program page at value) tear device =
    with_power_cut (with_word page at (left_word tear value) device)
device_after_tear (Erase page) tear device =
    with_power_cut
    (with_page_worn page (with_page page (left_page tear (page_at device page)) device))

-- or that is whole, where there is no tear
abbrev pub device_torn_by : Step → Option Tear → Device → Device
device_torn_by step None device = device_after step device
device_torn_by step (Some tear) device = device_after_tear step tear device

-- the device after a step, where its fuse is known: nothing changes while power is off; else the
-- step is whole, or cut by the fuse
abbrev pub device_by_fuse : Step → Device → Device
device_by_fuse step device =
    if device.on then device_torn_by step (known_tear device.fuse) device else device

-- where a fuse is known it is the one that cut the step, as its tear says
abbrev pub IsCutBy : Option (Option Fuse) → Step → Device → Device → Type 0
IsCutBy None step old new = Unit {0}
IsCutBy (Some fuse) step old new =
    IsSomeAnd (next_tear fuse) (λ tear. new ≡ device_after_tear step tear old)

-- a page in which each word is as before, erased or torn, in any mix
pub record IsPartlyErased (old new : List Word) : Type 0 where
  pub as_long : length new ≡ length old
  pub each : (at : ℕ)
      → (slice_index_or new at Erased ≡ slice_index_or old at Erased)
      ⊎ (slice_index_or new at Erased ≡ Erased) ⊎ (slice_index_or new at Erased ≡ Torn)

-- What a cut in a step may leave of the pages. A program leaves its word erased, held or torn. An
-- erase leaves each word of its page old, erased or torn. All else stays.
abbrev pub MayLeave : Step → Device → Device → Type 0
MayLeave (Program page at value) old new =
    (new.image ≡ old.image) ⊎ (new.image ≡ (with_word_programmed page at value old).image)
    ⊎ (new.image ≡ (with_word page at Torn old).image)
MayLeave (Erase page) old new =
    IsPartlyErased (page_at old page) (page_at new page)
    × (new.image ≡ (with_page page (page_at new page) old).image)

-- power was cut in this step
pub record IsCutIn (step : Step) (old new : Device) : Type 0 where
  pub was_on : IsOn old
  pub is_off : IsOff new
  pub same_size : new.size ≡ old.size
  pub image : MayLeave step old new
  pub wear : new.wear ≡ (device_after step old).wear
  pub cuts : new.cuts ≡ one_more old.cuts
  -- where the cuts left are a number, there was one more
  pub cuts_left : old.cuts_left ≡ option_map (λ left. left + 1) new.cuts_left
  pub by_fuse : IsCutBy old.fuse step old new

-- power was off, and nothing changed
pub record IsUntouched (old new : Device) : Type 0 where
  pub was_off : IsOff old
  pub same : new ≡ old

-- the step was done, with the power on
pub record IsDone (step : Step) (old new : Device) : Type 0 where
  pub was_on : IsOn old
  pub done : new ≡ device_after step old

-- each device that a step may leave
abbrev pub MayFollow : Step → Device → Device → Type 0
MayFollow step old new = IsDone step old new ⊎ IsCutIn step old new ⊎ IsUntouched old new
