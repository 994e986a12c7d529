-- The index of a store that keeps one: the slots in which the live addresses stand.
use Rattle.std.specs.Prelude.{◌≡◌, ◌<◌, ℕ, ◌+◌, ◌==◌, nat_lt, if◌then◌else◌, is_some, Bool, true, false, Option, Some, None, List, [], ◌∷◌, ◌++◌, length, slice_index_or}
use Rattle.std.specs.BTreeMap.{is_at}
use Rattle.std.specs.List.{All}
use Rattle.std.specs.List.Sorted.{IsStrictlySortedBy}
use Rattle.std.specs.Map.{keys_of, lookup}
use Rattle.std.specs.Option.{option_map}
use Rattle.std.specs.Ordering.{nat_cmp}
use Rattle.ee_codec.specs.Words.{IsAddress}
use Rattle.ee_flash.specs.Device.{Device}
use Rattle.ee_flash.specs.declared.word.Word.{Word}
use Rattle.ee_flash.specs.declared.word.Word.TheVariants.{Erased}
use Rattle.ee_codec.specs.declared.slot.Slot.{Slot}
use Rattle.ee_codec.specs.declared.slot.Slot.TheVariants.{Free, Spoiled, Element, Forgotten, Foreign}
use Rattle.ee_pages.specs.Layout.{IsLayout, IsScanFault}
use Rattle.ee_pages.specs.Legal.{IsLegal}
use Rattle.ee_pages.specs.Meaning.{Change, Map, Put, Forget, changed_by, live_in, map_after, meaning, says}
use Rattle.ee_pages.specs.LiveOrder.{above_of}
use Rattle.ee_pages.specs.Sets.{fill_of, set_of, slots_of}
use Rattle.ee_pages.specs.declared.find.Layout.{Layout}
use Rattle.ee_core.specs.Openings.{IsCutOpening}
use Rattle.ee_core.specs.Puts.{AreApart, forgets_of, is_put, puts_of}
use Rattle.ee_core.specs.declared.change.Put as listed
use Rattle.ee_index.specs.declared.indexed.IndexedFault.{IndexedFault}
use Rattle.ee_index.specs.declared.indexed.IndexedFault.TheVariants as indexed

-- the slot that these entries have for an address
abbrev pub slot_for : List (ℕ × ℕ) → Map
slot_for entries address = lookup (is_at (nat_cmp address)) entries

-- what a slot says of an address, if there is one
abbrev pub said_at : List Word → Option ℕ → ℕ → Option (Option (Option ℕ))
said_at slots slot address =
    option_map (λ number. says (slice_index_or slots number Erased) address) slot

-- that it has this value; nothing where it has none
abbrev pub says_value : Option ℕ → Option (Option (Option ℕ))
says_value value = option_map (λ value. Some (Some value)) value

-- It is an index of these slots: for each address that has a value it has a slot, which says that
-- value, and it has no other address.
abbrev pub IsIndex : List Word → Map → Type 0
IsIndex slots index =
    (address : ℕ) → said_at slots (index address) address ≡ says_value (meaning slots address)

-- ---- how an index changes

-- a slot of this number, behind those that were entered, says so
abbrev pub index_with_slot : Slot → ℕ → Map → Map
index_with_slot (Element address value) number index = map_after (Put address number) index
index_with_slot (Forgotten address value) number index = map_after (Forget address) index
index_with_slot Free number index = index
index_with_slot Spoiled number index = index
index_with_slot Foreign number index = index

-- what it has while a change is made in the slot of this number: an address that is put
-- stands there already
abbrev pub index_for_change : Change → ℕ → Map → Map
index_for_change (Put address value) number index = map_after (Put address number) index
index_for_change (Forget address) number index = index

-- what it has behind the change: an address that is forgotten leaves it
abbrev pub without_forgotten : Change → Map → Map
without_forgotten (Put address value) index = index
without_forgotten (Forget address) index = map_after (Forget address) index

-- an index of these slots, but for a change that is about to be made in the slot of this number
abbrev pub IsReadyFor : List Word → Change → ℕ → Map → Type 0
IsReadyFor slots change number index =
    (before : Map) × IsIndex slots before
    × ((address : ℕ) → index address ≡ index_for_change change number before address)

-- ---- how room is made in it

-- whether a slot of this number is used
abbrev pub is_filled : List Word → ℕ → Bool
is_filled slots number = nat_lt number (fill_of slots)

-- a slot, if it is one of those that are shown
abbrev pub shown_slot : (ℕ → Bool) → Option ℕ → Option ℕ
shown_slot shown None = None
shown_slot shown (Some number) = if shown number then Some number else None

-- what is seen of an index: the addresses whose slots are shown; the others are hidden
abbrev pub shown_index : (ℕ → Bool) → Map → Map
shown_index shown index address = shown_slot shown (index address)

-- one shows what another does, where so many slots are used
abbrev pub IsShownSame : ℕ → List (ℕ × ℕ) → List (ℕ × ℕ) → Type 0
IsShownSame fill old new =
    (address : ℕ)
    → shown_index (λ number. nat_lt number fill) (slot_for new) address
    ≡ shown_index (λ number. nat_lt number fill) (slot_for old) address

-- the index has the addresses to which this map gives a value, and no other
abbrev pub HasAddresses : Map → Map → Type 0
HasAddresses index map = (address : ℕ) → is_some (index address) ≡ is_some (map address)

-- these values add so many addresses to each map that gives the addresses of the index a value
abbrev pub AddsAddresses : List listed.Put → Map → ℕ → Type 0
AddsAddresses puts index count =
    (map : Map) → HasAddresses index map → AreApart (puts_of puts)
    → live_in (changed_by (puts_of puts) map) ≡ live_in map + count

-- An index of these slots in which there is room for values that are about to be put: an address
-- that has no value yet has a number in it that is no used slot's, and is hidden.
pub record IsRoomFor (slots : List Word) (puts : List listed.Put) (index : Map) : Type 0 where
  pub indexes : IsIndex slots (shown_index (is_filled slots) index)
  pub addresses : HasAddresses index (changed_by (puts_of puts) (meaning slots))

-- An index of these slots beside which hidden addresses may stand, and whatever it has
-- is a proper address.
pub record IsIndexBesideHidden (slots : List Word) (index : Map) : Type 0 where
  pub indexes : IsIndex slots (shown_index (is_filled slots) index)
  pub proper : (address : ℕ) → is_some (index address) ≡ true → IsAddress address

-- ---- how a transfer numbers it

-- the place of an address among values that are put, counted from 0
abbrev pub listed_place : List listed.Put → ℕ → ℕ
listed_place [] address = 0
listed_place (put ∷ puts) address =
    if put.address == address then 0 else listed_place puts address + 1

-- the values that are put have their places in the list for slots, and the others have the
-- slots from this one on
abbrev pub numbered_slots : List listed.Put → ℕ → List (ℕ × ℕ) → List (ℕ × ℕ)
numbered_slots puts number [] = []
numbered_slots puts number (entry ∷ more) =
    if is_put puts entry.0 then (entry.0, listed_place puts entry.0)
    ∷ numbered_slots puts number more
    else (entry.0, number) ∷ numbered_slots puts (number + 1) more

-- it has this slot where so many are taken, and so many are taken behind it
pub record IsNumberedNext (puts : List listed.Put) (number address slot next : ℕ) : Type 0 where
  pub gets : slot ≡ (if is_put puts address then listed_place puts address else number)
  pub behind : next ≡ (if is_put puts address then number else number + 1)

-- the entries behind a transfer: those that are forgotten left, and the others are numbered
pub record IsNumberedAfter (puts : List listed.Put) (forgets : Bool) (old new : List (ℕ × ℕ))
    : Type 0 where
  pub left : List (ℕ × ℕ)
  pub ordered : IsStrictlySortedBy nat_cmp (keys_of left)
  pub left_is : (address : ℕ)
      → slot_for left address
      ≡ changed_by (forgets_of (if forgets then puts else [])) (slot_for old) address
  pub numbered : let values =
      if forgets then [] else puts in new ≡ numbered_slots values (length values) left

-- ---- how it is gone over

-- what is left of the entries, behind this address, to go over
pub record IsLeft (slots : List Word) (shown : ℕ → Bool) (after : Option ℕ) (entries : List (ℕ × ℕ))
    : Type 0 where
  pub ordered : IsStrictlySortedBy nat_cmp (keys_of entries)
  pub behind : (address : ℕ) → is_some (slot_for entries address) ≡ true → above_of after < address
  pub indexes : (address : ℕ) → above_of after < address
      → said_at slots (shown_index shown (slot_for entries) address) address
      ≡ says_value (meaning slots address)

-- so it is of the used slots, of which there are so many
pub record IsFilledLeft (slots : List Word) (fill : ℕ) (after : Option ℕ) (entries : List (ℕ × ℕ))
    : Type 0 where
  pub fill_is : fill ≡ fill_of slots
  pub left : IsLeft slots (is_filled slots) after entries

-- the slots of these entries are hidden
abbrev pub AreHidden : (ℕ → Bool) → List (ℕ × ℕ) → Type 0
AreHidden shown entries = All (λ entry. shown entry.1 ≡ false) entries

-- a reader has passed hidden entries alone, up to what is left
abbrev pub PassesHidden : (ℕ → Bool) → List (ℕ × ℕ) → List (ℕ × ℕ) → Type 0
PassesHidden shown entries left =
    (passed : List (ℕ × ℕ)) × AreHidden shown passed × (entries ≡ passed ++ left)

-- the next entry that is shown, and what is left behind it
abbrev pub IsNextShown : (ℕ → Bool) → List (ℕ × ℕ) → Option (ℕ × ℕ) → List (ℕ × ℕ) → Type 0
IsNextShown shown entries None left = AreHidden shown entries
IsNextShown shown entries (Some found) left =
    (shown found.1 ≡ true) × PassesHidden shown entries (found ∷ left)

-- what a store with an index keeps beside its device, which is on: where the live
-- set is, and its index
pub record HasIndex (device : Device) (layout : Layout) (entries : List (ℕ × ℕ)) : Type 0 where
  pub found : IsLayout device layout
  pub indexes : IsIndex (slots_of (set_of layout.side device)) (slot_for entries)

-- Why there is no store with an index: as without one, or memory was refused for it, which comes
-- before the first step.
abbrev pub IndexedOpenFails : Device → IndexedFault → Device → Type 0
IndexedOpenFails old (indexed.Scan fault) new = IsScanFault old fault × (new ≡ old)
IndexedOpenFails old indexed.Memory new = IsLegal old × (new ≡ old)
IndexedOpenFails old indexed.Cut new = IsCutOpening old new
