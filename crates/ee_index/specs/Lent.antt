-- An index in memory that a caller lends: when it is given up.
use Rattle.std.specs.Prelude.{◌≡◌, ◌<◌, ◌≤◌, ◌⊎◌, ℕ, Bool, true, false, IfSome, Option, None, is_some, List, length, take}
use Rattle.ee_codec.specs.Words.{IsAddress}
use Rattle.ee_codec.specs.declared.slot.Slot.{Slot}
use Rattle.ee_codec.specs.declared.slot.Slot.TheVariants.{Element}
use Rattle.ee_flash.specs.declared.word.Word.{Word}
use Rattle.ee_pages.specs.Meaning.{Map, changed_by, live_in, meaning}
use Rattle.ee_pages.specs.Sets.{fill_of}
use Rattle.ee_core.specs.Puts.{AreApart, puts_of}
use Rattle.ee_core.specs.declared.change.Put as listed
use Rattle.ee_index.specs.Entries.{AreInOrder}
use Rattle.ee_index.specs.Index.{HasAddresses, IsIndex, slot_for}

-- memory that a caller lends for entries, and how many stand first in it
pub record Lent : Type 0 where
  pub memory : List (ℕ × ℕ)
  pub count : ℕ

-- those entries
abbrev pub lent_entries : Lent → List (ℕ × ℕ)
lent_entries lent = take lent.count lent.memory

-- how many entries there is room for
abbrev pub lent_room : Lent → ℕ
lent_room lent = length lent.memory

-- Behind so many of the used slots, counted from the first, more addresses had a value than there
-- is room for.
pub record WasTooSmall (room : ℕ) (slots : List Word) : Type 0 where
  pub used : ℕ
  pub within : used ≤ fill_of slots
  pub too_many : room < live_in (meaning (take used slots))

-- It finds the values of these slots. Where it is not given up, it is an index of them, and has
-- room for all addresses that have a value. Where it is, the store looks through the slots, and the
-- room was too small for them.
abbrev pub FitsLent : Bool → Lent → List Word → Type 0
FitsLent is_given_up lent slots =
    (is_given_up ≡ false → IsIndex slots (slot_for (lent_entries lent)))
    × (is_given_up ≡ false → live_in (meaning slots) ≤ lent_room lent)
    × (is_given_up ≡ true → WasTooSmall (lent_room lent) slots)

-- ---- an address that finds no room

-- room for so many was too small for these slots, or is full while this address has no value
abbrev pub IsTooSmallFor : ℕ → List Word → ℕ → Type 0
IsTooSmallFor room slots address =
    WasTooSmall room slots ⊎ ((room ≤ live_in (meaning slots)) × (meaning slots address ≡ None))

-- Behind so many of these values, counted from the first, more addresses would have a value than
-- there is room for.
pub record TakesTooMany (room : ℕ) (map : Map) (puts : List listed.Put) : Type 0 where
  pub used : ℕ
  pub within : used ≤ length puts
  pub too_many : room < live_in (changed_by (puts_of (take used puts)) map)

-- room for so many was too small for these slots, or is so for these values, each of which is of
-- an address of its own
abbrev pub IsTooSmallToMove : ℕ → List Word → List listed.Put → Type 0
IsTooSmallToMove room slots puts =
    AreApart (puts_of puts) → WasTooSmall room slots ⊎ TakesTooMany room (meaning slots) puts

-- so it is of these values wherever an index has the addresses of a map
abbrev pub OverfillsIndex : ℕ → Map → List listed.Put → Type 0
OverfillsIndex room index puts =
    (map : Map) → HasAddresses index map
    → ((address : ℕ) → is_some (map address) ≡ true → IsAddress address) → AreApart (puts_of puts)
    → TakesTooMany room map puts

-- A slot says a value of an address that the entries don't have. The entries rise, and there is no
-- room for one more, if the room is known.
pub record FindsNoRoom (said : Slot) (room : Option ℕ) (entries : List (ℕ × ℕ)) : Type 0 where
  pub address : ℕ
  pub value : ℕ
  pub said_is : said ≡ Element address value
  pub absent : slot_for entries address ≡ None
  pub ordered : AreInOrder entries
  pub full : IfSome room (λ room. room ≤ length entries)
