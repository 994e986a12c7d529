-- How many pages of a set are not blank, after a step in it, and how much of a set its map can
-- need. Each law is proved by the function of its name.
use Rattle.std.specs.Prelude.{◌≡◌, ◌≤◌, ◌⊎◌, ℕ, ◌+◌, false, true, if◌then◌else◌, is_some, List}
use Rattle.ee_flash.specs.Device.{Device, page_at}
use Rattle.ee_flash.specs.Laws.{IsStep}
use Rattle.ee_flash.specs.Size.{slot_count}
use Rattle.ee_flash.specs.Step.{Erase, Program, device_after}
use Rattle.ee_flash.specs.declared.word.Word.{Word}
use Rattle.ee_codec.specs.Words.{IsAddress}
use Rattle.ee_pages.specs.Laws.{IsPageOf}
use Rattle.ee_pages.specs.Legal.{IsLive}
use Rattle.ee_pages.specs.Meaning.{Change, Map, Put, Forget, map_after, live_in, meaning}
use Rattle.ee_pages.specs.Page.{is_blank}
use Rattle.ee_pages.specs.Sets.{fill_of, pending_of, set_of, slots_of}
use Rattle.ee_pages.specs.declared.side.Side.{Side}

-- every outcome of erasing a page that is not blank leaves as many pages that are not, or one less
abbrev pub EraseLowersPending : Type 0
EraseLowersPending =
    (page : ℕ) (old new : Device) (side : Side) → IsPageOf old.size side page
    → is_blank (page_at old page) ≡ false → IsStep (Erase page) old new
    → (pending_of (set_of side new) ≡ pending_of (set_of side old))
    ⊎ (pending_of (set_of side new) + 1 ≡ pending_of (set_of side old))

-- the whole step leaves one less
abbrev pub WholeEraseLowersPending : Type 0
WholeEraseLowersPending =
    (page : ℕ) (old new : Device) (side : Side) → IsPageOf old.size side page
    → is_blank (page_at old page) ≡ false → IsStep (Erase page) old new
    → new ≡ device_after (Erase page) old
    → (pending_of (set_of side new) + 1 ≡ pending_of (set_of side old))
    × (is_blank (page_at new page) ≡ true)

-- every outcome of a program in a page that is not blank leaves as many pages that are not
abbrev pub ProgramKeepsPending : Type 0
ProgramKeepsPending =
    (page at value : ℕ) (old new : Device) (side : Side) → IsPageOf old.size side page
    → is_blank (page_at old page) ≡ false
    → IsStep (Program page at value) old new
    → pending_of (set_of side new) ≡ pending_of (set_of side old)

-- a live set of which every slot is written has no blank page
abbrev pub FullSetHasNoBlankPage : Type 0
FullSetHasNoBlankPage =
    (device : Device) (side : Side) (generation : ℕ) → IsLive device side generation
    → fill_of (slots_of (set_of side device)) ≡ slot_count device.size
    → pending_of (set_of side device) ≡ device.size.pages

-- each address that has a value takes a slot
abbrev pub LiveWithinFill : Type 0
LiveWithinFill = (slots : List Word) → live_in (meaning slots) ≤ fill_of slots

-- how many addresses have a value after a change: one more or less than before, or as many
abbrev pub IsCountAfter : Change → Map → Type 0
IsCountAfter (Put address value) map =
    live_in (map_after (Put address value) map)
    ≡ live_in map + (if is_some (map address) then 0 else 1)
IsCountAfter (Forget address) map =
    live_in (map_after (Forget address) map) + (if is_some (map address) then 1 else 0)
    ≡ live_in map

-- the address of a change
abbrev pub address_of : Change → ℕ
address_of (Put address value) = address
address_of (Forget address) = address

abbrev pub ChangeCounts : Type 0
ChangeCounts =
    (change : Change) (map : Map) → IsAddress (address_of change) → IsCountAfter change map
