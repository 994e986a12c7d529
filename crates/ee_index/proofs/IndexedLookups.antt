-- What an index finds is what the map of its slots says.
use Rattle.std.proofs.Common.{◌≡◌, ◌+◌, ◌∙◌, Bool, true, false, ℕ, Result, Ok, Err, OnErr, OnOk, is_err, Some, List, [], arith, get_or, length, refl, sym, rules}
use Rattle.std.specs.Bool.{if◌then◌else◌}
use Rattle.std.specs.List.Sorted.{IsStrictlySortedBy}
use Rattle.std.specs.Map.{keys_of}
use Rattle.std.specs.Ordering.{nat_cmp}
use Rattle.ee_flash.specs.Device.{Device}
use Rattle.ee_flash.specs.declared.word.Word.TheVariants.{Erased}
use Rattle.ee_pages.specs.Layout.{IsLayout}
use Rattle.ee_pages.specs.Meaning.{Map, Put, changed_by, live_in, says}
use Rattle.ee_pages.specs.Sets.{fill_of, set_of, slots_of}
use Rattle.ee_pages.specs.declared.find.Layout.{Layout}
use Rattle.ee_core.specs.CallSteps.{map_change, map_in}
use Rattle.ee_core.specs.Lookups.{HasRoomToMove, IsReadyToMake}
use Rattle.ee_core.specs.Puts.{AreApart, puts_of}
use Rattle.ee_core.specs.State.{state_of}
use Rattle.ee_core.specs.declared.change.Change as declared
use Rattle.ee_core.specs.declared.change.Change.TheVariants as kinds
use Rattle.ee_core.specs.declared.change.Put as listed
use Rattle.ee_core.proofs.Public.{same_counts}
use Rattle.ee_index.specs.Index.{AddsAddresses, HasIndex, IsIndex, IsReadyFor, IsRoomFor, slot_for}
use Rattle.ee_index.specs.Lent.{FitsLent, IsTooSmallToMove, Lent, lent_entries, lent_room}
use Rattle.ee_flash.specs.declared.word.Word.{Word}
use Rattle.ee_index.proofs.IndexedRooms.{room_as_it_is}
use Rattle.ee_index.proofs.IndexedStores.{alike_held, entries_live, value_held}

-- what a store keeps, of its parts
pub has_index : (device : Device) (layout : Layout) (entries : List (ℕ × ℕ))
    → IsLayout device layout → IsIndex (slots_of (set_of layout.side device)) (slot_for entries)
    → HasIndex device layout entries
has_index _ _ _ found indexes = record { found = found; indexes = indexes }

module _ (device : Device) (layout : Layout) (entries : List (ℕ × ℕ))
    (kept : HasIndex device layout entries) where
  same_map : (address : ℕ) → (state_of device).map address ≡ map_in layout.side device address
  same_map address = search rules

  pub value_found : (address number value : ℕ) → slot_for entries address ≡ Some number
      → ((named said : ℕ)
      → says (get_or (slots_of (set_of layout.side device)) number Erased) named
      ≡ Some (Some said)
      → value ≡ said)
      → Some value ≡ map_in layout.side device address
  value_found address number value e is =
      value_held device layout entries kept address number value e is ∙ same_map address

  pub live_found : IsStrictlySortedBy nat_cmp (keys_of entries)
      → length entries ≡ live_in (map_in layout.side device)
  live_found sorted =
      entries_live device layout entries kept sorted
      ∙ same_counts (state_of device).map (map_in layout.side device) same_map

  pub live_with_found : (puts : List listed.Put) (count : ℕ)
      → IsStrictlySortedBy nat_cmp (keys_of entries) → AreApart (puts_of puts)
      → AddsAddresses puts (slot_for entries) count
      → length entries + count ≡ live_in (changed_by (puts_of puts) (map_in layout.side device))
  live_with_found puts count sorted each adds =
      let all =
      adds (map_in layout.side device)
      (λ address. alike_held (slots_of (set_of layout.side device))
      (slot_for entries address) (map_in layout.side device address) address
      (kept.indexes address)) each in
      omega (arith, all, live_found sorted)

-- it is ready for a change in the first free slot
pub ready_for : (slots : List Word) (fill : ℕ) (index : Map) (change : declared.Change)
    → fill ≡ fill_of slots
    → IsReadyToMake (IsIndex slots index)
    (λ address. IsReadyFor slots (Put address 0) (fill_of slots) index) change
    → IsReadyFor slots (map_change change) fill index
ready_for slots fill index (kinds.Put address value) fill_is given = search rules
ready_for _ _ index (kinds.Forget address _) _ given = (index, given, λ address. refl)

-- it has room for a transfer
pub room_for : (device : Device) (layout : Layout) (entries : List (ℕ × ℕ)) (puts : List listed.Put)
    (forgets : Bool)
    → IsLayout device layout
    → HasRoomToMove (IsIndex (slots_of (set_of layout.side device)) (slot_for entries))
    (λ puts. IsRoomFor (slots_of (set_of layout.side device)) puts (slot_for entries)) puts
    forgets
    → IsRoomFor (slots_of (set_of layout.side device)) (if forgets then [] else puts)
    (slot_for entries)
room_for device layout entries puts true found given = search (rules, room_as_it_is, has_index)
room_for _ _ _ _ false _ given = given

-- ---- where an index may be given up

-- what holds of an answer that is good holds of one that is no error
pub given_ok : {T E X : Type 0} (result : Result T E) → is_err result ≡ false → OnOk result X → X
given_ok (Ok _) _ given = given
given_ok (Err error) is given = absurd (cc is)

pub given_err : {T E X : Type 0} (result : Result T E) → is_err result ≡ true → OnErr result X → X
given_err (Ok value) is given = absurd (cc is)
given_err (Err _) _ given = given

pub kept_ready : (K G within fits small : Type 0) (ready few : ℕ → Type 0)
    (change : declared.Change)
    → K
    → IsReadyToMake ((K → fits) × within × (G → small))
    (λ address. (K → ready address) × (G → few address)) change
    → IsReadyToMake fits ready change
kept_ready K G within _ _ _ _ (kinds.Put _ _) kept given = given.0 kept
kept_ready K G within _ _ _ _ (kinds.Forget _ _) kept given = given.0 kept

pub gone_ready : (K G within fits small : Type 0) (ready few : ℕ → Type 0)
    (change : declared.Change)
    → G
    → IsReadyToMake ((K → fits) × within × (G → small))
    (λ address. (K → ready address) × (G → few address)) change
    → IsReadyToMake small few change
gone_ready K G within _ _ _ _ (kinds.Put _ _) gone given = given.1 gone
gone_ready K G within _ _ _ _ (kinds.Forget _ _) gone given = given.2 gone

-- it has room for a transfer, where it is not given up
pub kept_room_for : (is_given_up : Bool) (lent : Lent) (device : Device) (layout : Layout)
    (puts : List listed.Put) (forgets : Bool)
    → IsLayout device layout
    → HasRoomToMove (FitsLent is_given_up lent (slots_of (set_of layout.side device)))
    (λ puts. (is_given_up ≡ false
    → IsRoomFor (slots_of (set_of layout.side device)) puts (slot_for (lent_entries lent)))
    × (is_given_up ≡ true
    → IsTooSmallToMove (lent_room lent) (slots_of (set_of layout.side device)) puts)) puts forgets
    → is_given_up ≡ false
    → IsRoomFor (slots_of (set_of layout.side device)) (if forgets then [] else puts)
    (slot_for (lent_entries lent))
kept_room_for _ lent device layout puts true found given kept =
    room_for device layout (lent_entries lent) puts true found (given.0 kept)
kept_room_for _ _ _ _ _ false _ given kept = given.0 kept

-- an index that was kept followed, and one that was given up was read anew
pub kept_or_read : {X : Type 0} (was is : Bool) → (was ≡ false → X) → (was ≡ true → is ≡ false → X)
    → is ≡ false → X
kept_or_read true _ _ read kept = read refl kept
kept_or_read false _ followed _ _ = followed refl

-- an index that is given up was so before, and was read anew if there was room
pub gone_before : {X Y : Type 0} (was is : Bool) → (was ≡ false → (is ≡ false) × Y)
    → (was ≡ true → is ≡ true → X) → is ≡ true → X
gone_before true _ _ read gone = read refl gone
gone_before false is kept _ gone =
    let both : true ≡ false = sym gone ∙ (kept refl).0 in
    absurd (cc both)
