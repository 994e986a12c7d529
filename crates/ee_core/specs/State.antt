-- What a store is to its users: the map that the live set means, and how far it is used.
use Rattle.std.specs.Prelude.{◌≡◌, ◌+◌, ◌<◌, ℕ, if◌then◌else◌, Option, Some, None, List, [], ◌∷◌, ◌++◌, length, slice_index, slice_set}
use Rattle.std.specs.List.{All}
use Rattle.ee_flash.specs.Device.{Device, all_ones}
use Rattle.ee_flash.specs.Size.{slot_count}
use Rattle.ee_flash.specs.Step.{one_more}
use Rattle.ee_flash.specs.declared.word.Word.{Word}
use Rattle.ee_pages.specs.Meaning.{Change, Map, changed_by, map_after, live_in, meaning}
use Rattle.ee_pages.specs.Page.{is_blank}
use Rattle.ee_pages.specs.Sets.{fill_of, first_page, live_of, other, pending_of, set_of, slots_of, torn_of}
use Rattle.ee_pages.specs.declared.side.Side.{Side}

-- the value of each address that has one, how many slots are used, the generation of the live set,
-- and how many pages of the other set wait to be erased
pub record State : Type 0 where
  pub map : Map
  pub fill : ℕ
  pub generation : ℕ
  pub pending : ℕ

-- with this live set of this generation
abbrev pub state_with : Device → Side → ℕ → State
state_with device side generation = record {
  map = meaning (slots_of (set_of side device));
  fill = fill_of (slots_of (set_of side device));
  generation = generation;
  pending = pending_of (set_of (other side) device);
}

-- nothing was ever written
abbrev pub empty_state : State
empty_state = record { map = λ address. None; fill = 0; generation = 0; pending = 0 }

abbrev pub state_in : Device → Option (Side × ℕ) → State
state_in device None = empty_state
state_in device (Some live) = state_with device live.0 live.1

-- the state that a device's image says
abbrev pub state_of : Device → State
state_of device = state_in device (live_of device)

abbrev pub torn_slots_in : Device → Option (Side × ℕ) → ℕ
torn_slots_in device None = 0
torn_slots_in device (Some live) = torn_of (slots_of (set_of live.0 device))

-- how many slots of the live set are torn
abbrev pub torn_slots_of : Device → ℕ
torn_slots_of device = torn_slots_in device (live_of device)

abbrev pub used_pages_in : Device → Option (Side × ℕ) → ℕ
used_pages_in device None = 0
used_pages_in device (Some live) = pending_of (set_of live.0 device)

-- how many pages of the live set are not blank
abbrev pub used_pages_of : Device → ℕ
used_pages_of device = used_pages_in device (live_of device)

-- the slots of a set
abbrev pub capacity : Device → ℕ
capacity device = slot_count device.size

-- just formatted
abbrev pub formatted_state : State
formatted_state = record { map = λ address. None; fill = 0; generation = 1; pending = 0 }

-- a change is appended: it takes a slot
abbrev pub appended_state : Change → State → State
appended_state change state =
    record state { map = map_after change state.map; fill = state.fill + 1 }

-- a slot is torn
abbrev pub torn_state : State → State
torn_state state = record state { fill = state.fill + 1 }

-- the map, changed, moved to the other set: each address with a value takes a slot, and so many
-- pages of the set that it left wait to be erased
abbrev pub moved_state : ℕ → List Change → State → State
moved_state pages changes state = record {
  map = changed_by changes state.map;
  fill = live_in (changed_by changes state.map);
  generation = state.generation + 1;
  pending = pages;
}

-- with so many pages that wait to be erased
abbrev pub with_pending : ℕ → State → State
with_pending pages state = record state { pending = pages }

-- ---- which pages wait to be erased

-- the numbers of those pages that are not blank, rising, where the first page has this number
abbrev pub not_blank_from : ℕ → List (List Word) → List ℕ
not_blank_from number [] = []
not_blank_from number (page ∷ pages) =
    if is_blank page then not_blank_from (number + 1) pages
    else number ∷ not_blank_from (number + 1) pages

-- the pages of a set that are not blank, by their numbers in the device
abbrev pub not_blank_in : Side → Device → List ℕ
not_blank_in side device = not_blank_from (first_page device.size side) (set_of side device)

abbrev pub pending_pages_in : Device → Option (Side × ℕ) → List ℕ
pending_pages_in device None = []
pending_pages_in device (Some live) = not_blank_in (other live.0) device

-- the pages that wait to be erased: of the set that is not live those not blank, by rising number
abbrev pub pending_pages : Device → List ℕ
pending_pages device = pending_pages_in device (live_of device)

-- the live set after a transfer: the other set, with the next generation
abbrev pub next_live : Option (Side × ℕ) → Option (Side × ℕ)
next_live None = None
next_live (Some live) = Some (other live.0, live.1 + 1)

-- ---- how wear rises

-- no page was erased as often as can be counted
abbrev pub CountsWear : Device → Type 0
CountsWear device = All (λ count. count < all_ones) device.wear

-- these wears, when the pages of a list were each erased once more, as often as the list names them
abbrev pub worn_by : List ℕ → List ℕ → List ℕ
worn_by [] wear = wear
worn_by (page ∷ pages) wear = worn_by pages (slice_set wear page (one_more (slice_index wear page)))

-- The pages of the list were erased between, and no other erase was begun: the wear of each page
-- rose by as often as the list names it, up to the greatest count.
pub record Wears (pages : List ℕ) (old new : Device) : Type 0 where
  pub there : All (λ page. page < length old.wear) pages
  pub wear_is : new.wear ≡ worn_by pages old.wear

-- So were those before this page of the list; its erase was begun; those behind it have not worn.
pub record WearsTo (page : ℕ) (pages : List ℕ) (old new : Device) : Type 0 where
  pub before : List ℕ
  pub behind : List ℕ
  pub pages_are : pages ≡ before ++ (page ∷ behind)
  pub wears : Wears (before ++ (page ∷ [])) old new

-- So were so many pages, one page perhaps several times.
pub record WearRises (erases : ℕ) (old new : Device) : Type 0 where
  pub pages : List ℕ
  pub count : length pages ≡ erases
  pub wears : Wears pages old new
