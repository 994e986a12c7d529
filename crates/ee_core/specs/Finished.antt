-- The marks that an opening sets, and the images in which none is left to set.
use Rattle.std.specs.Prelude.{◌≡◌, ◌<◌, ◌⊎◌, ℕ, ◌+◌, ◌-◌, true, Some}
use Rattle.ee_flash.specs.Device.{Device, IsOn, page_at}
use Rattle.ee_pages.specs.Legal.{IsLegal}
use Rattle.ee_pages.specs.Page.{is_blank, is_marked}
use Rattle.ee_pages.specs.Sets.{fill_of, first_page, live_of, other, page_of_slot, set_of, slots_of}
use Rattle.ee_pages.specs.declared.side.Side.{Side}
use Rattle.ee_pages.specs.declared.state.Mark.TheVariants.{Active, Erasing, Valid}

-- the page of the last used slot of a set, counted from the set's first; its first if no slot is
-- used
abbrev pub last_used : Device → Side → ℕ
last_used device side = page_of_slot device.size (fill_of (slots_of (set_of side device)) - 1)

-- in this live set the pages before the last used one are marked valid, and that one is marked
-- active
pub record IsLiveMarked (device : Device) (side : Side) : Type 0 where
  pub valid : (page : ℕ) → page < last_used device side
      → is_marked device (first_page device.size side + page) Valid ≡ true
  pub active : is_marked device (first_page device.size side + last_used device side) Active ≡ true

-- each page of this set that is not blank is marked as one that may be erased
abbrev pub IsOldMarked : Device → Side → Type 0
IsOldMarked device side = (page : ℕ) → page < device.size.pages
    → (is_blank (page_at device (first_page device.size side + page)) ≡ true)
    ⊎ (is_marked device (first_page device.size side + page) Erasing ≡ true)

-- both, for the live set and the other one
pub record IsMarked (device : Device) (side : Side) : Type 0 where
  pub live : IsLiveMarked device side
  pub old : IsOldMarked device (other side)

-- no mark is left to set
abbrev pub IsFinished : Device → Type 0
IsFinished device =
    (side : Side) (generation : ℕ) → live_of device ≡ Some (side, generation) → IsMarked device side

-- the device of a store: its image is legal, and while it is on no mark is left to set
pub record IsStore (device : Device) : Type 0 where
  pub legal : IsLegal device
  pub finished : IsOn device → IsFinished device
