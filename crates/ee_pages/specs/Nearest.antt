-- The addresses of which slots say something, gathered slot by slot into a list by rising address.
use Rattle.std.specs.Prelude.{◌≡◌, ◌<◌, ◌≤◌, ◌==◌, ◌+◌, ◌/◌, ◌%◌, ◌^◌, ℕ, nat_lt, if◌then◌else◌, Option, Some, None, List, [], ◌∷◌, length, zero, suc}
use Rattle.ee_flash.specs.declared.word.Word.{Word}
use Rattle.ee_codec.specs.Reading.{slot_of}
use Rattle.ee_codec.specs.Words.{IsAddress}
use Rattle.ee_codec.specs.declared.slot.Slot.{Slot}
use Rattle.ee_codec.specs.declared.slot.Slot.TheVariants.{Free, Spoiled, Element, Forgotten, Foreign}

-- an address, with what a slot says of it: that it has a value, or none
abbrev pub Named : Type 0
Named = ℕ × Option ℕ

-- the address of which a slot says something
abbrev pub slot_names : Slot → Option Named
slot_names (Element address value) = Some (address, Some value)
slot_names (Forgotten address value) = Some (address, None)
slot_names Free = None
slot_names Spoiled = None
slot_names Foreign = None

-- each address is above the one before it
abbrev pub IsRising : {X : Type 0} → ℕ → List (ℕ × X) → Type 0
IsRising above [] = Unit {0}
IsRising above (first ∷ rest) = (above < first.0) × IsRising first.0 rest

-- so many addresses of the list are below this one, and the next one isn't
abbrev pub IsPlace : {X : Type 0} → ℕ → List (ℕ × X) → ℕ → Type 0
IsPlace address [] place = place ≡ 0
IsPlace address (first ∷ rest) zero = address ≤ first.0
IsPlace address (first ∷ rest) (suc place) = (first.0 < address) × IsPlace address rest place

-- the list with what is said of an address, in the place of what it had of it
abbrev pub with_named : Named → List Named → List Named
with_named new [] = new ∷ []
with_named new (first ∷ rest) =
    if nat_lt new.0 first.0 then new ∷ first ∷ rest
    else (if new.0 == first.0 then new ∷ rest else first ∷ with_named new rest)

-- the same, if it is said of an address above this one
abbrev pub noted_above : ℕ → Option Named → List Named → List Named
noted_above above None list = list
noted_above above (Some new) list = if nat_lt above new.0 then with_named new list else list

-- the list with what each of these words says of an address above this one, in their order
abbrev pub with_each_named : ℕ → List Word → List Named → List Named
with_each_named above [] list = list
with_each_named above (word ∷ words) list =
    with_each_named above words (noted_above above (slot_names (slot_of word)) list)

-- those that have a value
abbrev pub live_values : List Named → List (ℕ × ℕ)
live_values [] = []
live_values ((address, Some value) ∷ rest) = (address, value) ∷ live_values rest
live_values ((address, None) ∷ rest) = live_values rest

-- the last address of a list, or this one where there is none
abbrev pub last_named : ℕ → List Named → ℕ
last_named above [] = above
last_named above (first ∷ rest) = last_named first.0 rest

-- the second list is as long as the first, and ends in the same address
pub record HasSameLast (old new : List Named) : Type 0 where
  pub same_length : length new ≡ length old
  pub same_last : (above : ℕ) → last_named above new ≡ last_named above old

-- the number is that of an element or a forgetting of a proper address, by the bits that hold one
abbrev pub IsOfAddress : ℕ → Type 0
IsOfAddress number = IsAddress (number % 2 ^ 16)

-- the address in the number of an element or a forgetting, with what this says of it
abbrev pub named_by : ℕ → Named
named_by number =
    (number % 2 ^ 16, if number / 2 ^ 16 % 2 ^ 16 == 0 then Some (number / 2 ^ 32) else None)

-- the address in it, with its value
abbrev pub item_by : ℕ → ℕ × ℕ
item_by number = (number % 2 ^ 16, number / 2 ^ 32)

-- In a list that takes so many, so many addresses above one have a place: all, where it isn't full,
-- and else those up to its last.
pub record HasPlaces (room above span : ℕ) (list : List Named) : Type 0 where
  pub free : length list < room → above + span ≡ 65534
  pub full : length list ≡ room → above + span ≡ last_named above list
  pub proper : above + span < 65535

-- a batch as it is filled: its addresses with what is said of them, and with their values,
-- if they all have one
pub record Batch : Type 0 where
  pub named : List Named
  pub items : List (ℕ × ℕ)
