-- The rule of AN4894, which knows no forgetting: the value of an address is that of its last
-- element. The law is proved by the function of its name.
use Rattle.std.specs.Prelude.{◌≡◌, ◌≢◌, ◌<◌, ℕ, Some, None, List, slice_index_or}
use Rattle.ee_codec.specs.Reading.{slot_of}
use Rattle.ee_codec.specs.declared.slot.Slot.{Slot}
use Rattle.ee_codec.specs.declared.slot.Slot.TheVariants.{Element, Forgotten}
use Rattle.ee_flash.specs.declared.word.Word.{Word}
use Rattle.ee_flash.specs.declared.word.Word.TheVariants.{Erased}
use Rattle.ee_pages.specs.Meaning.{meaning}

-- what the slot of this number says, free past the end
abbrev pub slot_at : List Word → ℕ → Slot
slot_at slots number = slot_of (slice_index_or slots number Erased)

-- no slot is a forgetting
abbrev pub HasNoForgetting : List Word → Type 0
HasNoForgetting slots = (number address value : ℕ) → slot_at slots number ≢ Forgotten address value

-- none is an element of this address
abbrev pub HasNoElement : List Word → ℕ → Type 0
HasNoElement slots address = (number value : ℕ) → slot_at slots number ≢ Element address value

-- the slot of this number is an element of the address with this value, and none behind it is an
-- element of the address
pub record IsLastElement (slots : List Word) (number address value : ℕ) : Type 0 where
  pub there : slot_at slots number ≡ Element address value
  pub none_behind : (later other : ℕ) → number < later → slot_at slots later ≢ Element address other

-- with no forgetting among the slots, an address has the value of its last element, and none
-- if it has no element
abbrev pub LastElementCounts : Type 0
LastElementCounts =
    (slots : List Word) (address : ℕ) → HasNoForgetting slots
    → ((number value : ℕ) → IsLastElement slots number address value
    → meaning slots address ≡ Some value)
    × (HasNoElement slots address → meaning slots address ≡ None)
