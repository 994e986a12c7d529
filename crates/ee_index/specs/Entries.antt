-- The entries of an index: addresses with their slots, by rising address.
use Rattle.std.specs.Prelude.{◌≡◌, ◌<◌, ◌≤◌, ◌-◌, ℕ, is_some, true, List, [], ◌∷◌, drop, length, slice_index_or, take}
use Rattle.std.specs.List.Sorted.{IsStrictlySortedBy}
use Rattle.std.specs.Map.{keys_of}
use Rattle.std.specs.Ordering.{nat_cmp}
use Rattle.ee_codec.specs.declared.slot.Slot.{Slot}
use Rattle.ee_codec.specs.declared.slot.Slot.TheVariants.{Free, Spoiled, Element, Forgotten, Foreign}
use Rattle.ee_index.specs.Index.{slot_for}

-- the entry of what a slot of this number says; an address that is forgotten has the number
-- `hidden`
abbrev pub entries_said : Slot → ℕ → ℕ → List (ℕ × ℕ)
entries_said (Element address value) number hidden = (address, number) ∷ []
entries_said (Forgotten address value) number hidden = (address, hidden) ∷ []
entries_said Free number hidden = []
entries_said Spoiled number hidden = []
entries_said Foreign number hidden = []

-- their addresses rise
abbrev pub AreInOrder : List (ℕ × ℕ) → Type 0
AreInOrder entries = IsStrictlySortedBy nat_cmp (keys_of entries)

-- the address of the entry at a place
abbrev pub address_at : List (ℕ × ℕ) → ℕ → ℕ
address_at entries place = let entry = slice_index_or entries place (0, 0) in entry.0

-- the entry at this place is the one of an address
pub record StandsAt (entries : List (ℕ × ℕ)) (address place : ℕ) : Type 0 where
  pub within : place < length entries
  pub here : address_at entries place ≡ address
  pub below : (before : ℕ) → before < place → address_at entries before < address
  pub above : (behind : ℕ) → place < behind → behind < length entries
      → address < address_at entries behind

-- no entry is the one of an address, which would stand at this place
pub record WouldStandAt (entries : List (ℕ × ℕ)) (address place : ℕ) : Type 0 where
  pub within : place ≤ length entries
  pub below : (before : ℕ) → before < place → address_at entries before < address
  pub above : (behind : ℕ) → place ≤ behind → behind < length entries
      → address < address_at entries behind

-- the entries from this place on
abbrev pub entries_from : List (ℕ × ℕ) → ℕ → List (ℕ × ℕ)
entries_from entries place = take (length entries - place) (drop place entries)

-- these are the entries of greater addresses than this one
pub record AreAbove (above : ℕ) (entries part : List (ℕ × ℕ)) : Type 0 where
  pub ordered : AreInOrder part
  pub same : (address : ℕ) → above < address → slot_for part address ≡ slot_for entries address
  pub only : (address : ℕ) → is_some (slot_for part address) ≡ true → above < address
