-- What the slots of a set mean: the map from addresses to values, and what a change does to it.
use Rattle.std.specs.Prelude.{◌≡◌, ℕ, ◌+◌, ◌==◌, is_some, if◌then◌else◌, Option, Some, None, List, [], ◌∷◌, zero, suc}
use Rattle.ee_flash.specs.declared.word.Word.{Word}
use Rattle.ee_codec.specs.Reading.{slot_of}
use Rattle.ee_codec.specs.Words.{IsAddress, IsValue, element, forgetting}
use Rattle.ee_codec.specs.declared.slot.Slot.{Slot}
use Rattle.ee_codec.specs.declared.slot.Slot.TheVariants.{Free, Spoiled, Element, Forgotten, Foreign}

-- the value of each address that has one
abbrev pub Map : Type 0
Map = ℕ → Option ℕ

-- What a slot says of an address: nothing, that it has a value from here on, or that it has none.
abbrev pub slot_says : Slot → ℕ → Option (Option ℕ)
slot_says (Element named value) address = if named == address then Some (Some value) else None
slot_says (Forgotten named value) address = if named == address then Some None else None
slot_says Free address = None
slot_says Spoiled address = None
slot_says Foreign address = None

abbrev pub says : Word → ℕ → Option (Option ℕ)
says word address = slot_says (slot_of word) address

-- of two slots, the later one that says something
abbrev pub later_of : Option (Option ℕ) → Option (Option ℕ) → Option (Option ℕ)
later_of old None = old
later_of old (Some new) = Some new

-- what the last slot that says something of the address says
abbrev pub latest_in : List Word → ℕ → Option (Option ℕ)
latest_in [] address = None
latest_in (slot ∷ slots) address = later_of (says slot address) (latest_in slots address)

-- an address of which nothing is said has no value
abbrev pub value_said : Option (Option ℕ) → Option ℕ
value_said None = None
value_said (Some value) = value

-- the map that the slots hold
abbrev pub meaning : List Word → Map
meaning slots address = value_said (latest_in slots address)

-- how many of the addresses 1 to this one have a value
unfoldable pub live_to : Map → ℕ → ℕ
live_to map zero = 0
live_to map (suc address) = live_to map address + (if is_some (map (suc address)) then 1 else 0)

-- how many addresses have a value
abbrev pub live_in : Map → ℕ
live_in map = live_to map 65534

-- a change of the map: an address gets a value, or has none from here on
pub data Change : Type 0 where
  Put : (address value : ℕ) → Change
  Forget : (address : ℕ) → Change

-- the map after a change
abbrev pub map_after : Change → Map → Map
map_after (Put named value) map address = if named == address then Some value else map address
map_after (Forget named) map address = if named == address then None else map address

-- the map after changes, in their order
abbrev pub changed_by : List Change → Map → Map
changed_by [] map = map
changed_by (change ∷ changes) map = changed_by changes (map_after change map)

-- The change, of a proper address and a value that fits, is spelled by this number; the value in a
-- forgetting means nothing.
abbrev pub SpellsChange : ℕ → Change → Type 0
SpellsChange number (Put address value) =
    IsAddress address × IsValue value × (number ≡ element address value)
SpellsChange number (Forget address) =
    (value : ℕ) × IsAddress address × IsValue value × (number ≡ forgetting address value)
