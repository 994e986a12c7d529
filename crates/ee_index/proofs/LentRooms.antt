-- When an index in lent memory is given up: more addresses had a value than there is room for.
use Rattle.std.proofs.lemmas.Grind.{common_steps}
use Rattle.std.proofs.Common.{◌≡◌, ◌≢◌, inl, inr, ◌∙◌, ◌<◌, ◌≤◌, ◌+◌, ℕ, true, false, IfSome, Option, Some, None, is_some, List, [], ◌∷◌, ap, arith, get_or, length, refl, suc, subst, sym, take, zero, rules}
use Rattle.std.proofs.lemmas.Bool.{cases_eq}
use Rattle.std.proofs.lemmas.List.{ext_get_or, get_or-take, length-take, length-take-le}
use Rattle.ee_codec.specs.Reading.{slot_of}
use Rattle.ee_codec.specs.Words.{IsAddress}
use Rattle.ee_codec.specs.declared.slot.Slot.{Slot}
use Rattle.ee_codec.specs.declared.slot.Slot.TheVariants.{Element}
use Rattle.ee_flash.specs.Device.{Device}
use Rattle.ee_flash.specs.Size.{slot_count}
use Rattle.ee_flash.specs.declared.word.Word.{Word}
use Rattle.ee_flash.specs.declared.word.Word.TheVariants.{Erased}
use Rattle.ee_pages.specs.Layout.{IsLayout}
use Rattle.ee_pages.specs.Meaning.{Change, Map, Put, SpellsChange, changed_by, later_of, latest_in, live_in, map_after, meaning, says, slot_says, value_said}
use Rattle.ee_pages.specs.Sets.{fill_of, other, set_of, slots_of}
use Rattle.ee_pages.specs.declared.find.Layout.{Layout}
use Rattle.ee_pages.specs.declared.side.Side.{Side}
use Rattle.ee_pages.proofs.Public.{change_counts, length-slots}
use Rattle.ee_core.specs.Appending.{ChangeWritten}
use Rattle.ee_core.specs.CallSteps.{map_change, map_in, number_written}
use Rattle.ee_core.specs.Lookups.{IsReadyToMake, slots_by}
use Rattle.ee_core.specs.Transfers.{SetMoved}
use Rattle.ee_core.specs.declared.change.Change as declared
use Rattle.ee_core.specs.declared.change.Change.TheVariants as kinds
use Rattle.ee_core.specs.Puts.{AreApart, puts_of}
use Rattle.ee_core.specs.declared.change.Put as listed
use Rattle.ee_core.proofs.Public.{one_counted, put-other, same_counts}
use Rattle.ee_index.specs.Entries.{AreInOrder}
use Rattle.ee_index.specs.Index.{HasAddresses, HasIndex, IsIndex, said_at, says_value, slot_for}
use Rattle.ee_index.specs.Lent.{Lent, lent_entries, lent_room, FindsNoRoom, IsTooSmallFor, IsTooSmallToMove, OverfillsIndex, WasTooSmall}
use Rattle.ee_index.proofs.IndexedAppends.{other_slots}
use Rattle.ee_index.proofs.IndexedLookups.{live_found}
use Rattle.ee_index.proofs.IndexedRooms.{changed_alike}
use Rattle.ee_index.proofs.IndexedStores.{alike, alike_held, count_of, few_of, says_proper, some_is}
use Rattle.ee_index.proofs.Indexing.{IndexesTo, all_used_said, has_none, latest_further, nothing_if}

-- ---- a value for a new address

-- it makes one address more
counted : (address value : ℕ) (map : Map) → map address ≡ None → IsAddress address
    → live_in (map_after (Put address value) map) ≡ live_in map + 1
counted address value map none proper =
    let counts = change_counts (Put address value) map proper in
    let new : is_some (map address) ≡ false = ap is_some none in
    rw new at counts

-- ---- slot by slot

put_said : (before : Option (Option ℕ)) (address value named : ℕ)
    → value_said (later_of before (slot_says (Element address value) named))
    ≡ map_after (Put address value) (λ named. value_said before) named
put_said before address value named = search (rules, cases_eq, common_steps)

proper_if : (slots : List Word) (address number : ℕ) (held : Option ℕ)
    → said_at slots (Some number) address ≡ says_value held → IsAddress address
proper_if slots address number None e = absurd (cc e)
proper_if slots address number (Some value) e =
    let here : says (get_or slots number Erased) address ≡ Some (Some value) = cc e in
    says_proper (get_or slots number Erased) address (Some value) here

element_proper : (word : Word) (address value : ℕ) → slot_of word ≡ Element address value
    → IsAddress address
element_proper word address value e =
    let here : says word address ≡ Some (Some value) = search (rules, common_steps) in
    says_proper word address (Some value) here

module _ (slots : List Word) (count : ℕ) (entries : List (ℕ × ℕ)) (within : count < length slots)
    (indexes : IndexesTo slots count (slot_for entries)) where
  held_proper : (address : ℕ) → is_some (slot_for entries address) ≡ true → IsAddress address
  held_proper address held =
      let number = some_is (slot_for entries address) held in
      proper_if slots address number.0 (meaning (take count slots) address)
      (ap (λ slot. said_at slots slot address) (sym number.1) ∙ indexes address)

  as_many : AreInOrder entries → length entries ≡ live_in (meaning (take count slots))
  as_many ordered =
      count_of entries ordered held_proper
      ∙ alike (slot_for entries) (meaning (take count slots))
      (λ address. alike_held slots (slot_for entries address) (meaning (take count slots) address)
      address (indexes address)) 65534

  further : (address value : ℕ) → slot_of (get_or slots count Erased) ≡ Element address value
      → (named : ℕ)
      → meaning (take (count + 1) slots) named
      ≡ map_after (Put address value) (meaning (take count slots)) named
  further address value said named =
      ap value_said (latest_further slots count named within)
      ∙ ap
      (λ (slot : Slot). value_said
      (later_of (latest_in (take count slots) named) (slot_says slot named))) said
      ∙ put_said (latest_in (take count slots) named) address value named

  one_more : (address value : ℕ) → slot_of (get_or slots count Erased) ≡ Element address value
      → slot_for entries address ≡ None → AreInOrder entries
      → live_in (meaning (take (count + 1) slots)) ≡ length entries + 1
  one_more address value said absent ordered =
      let none =
      nothing_if slots address (meaning (take count slots) address)
      (ap (λ slot. said_at slots slot address) (sym absent) ∙ indexes address) in
      same_counts (meaning (take (count + 1) slots))
      (map_after (Put address value) (meaning (take count slots))) (further address value said)
      ∙ counted address value (meaning (take count slots)) none
      (element_proper (get_or slots count Erased) address value said)
      ∙ ap (λ many. many + 1) (sym (as_many ordered))

  -- what a slot says finds no room
  pub found_small : (said : Slot) → said ≡ slot_of (get_or slots count Erased)
      → count < fill_of slots → (room : Option ℕ) → FindsNoRoom said room entries
      → IfSome room (λ room. WasTooSmall room slots)
  found_small said said_is filled None found = tt
  found_small said said_is filled (Some room) found = record {
    used = count + 1;
    within = omega (arith, filled);
    too_many =
        let full : room ≤ length entries = found.full in
        let more =
        one_more found.address found.value (sym said_is ∙ found.said_is) found.absent
        found.ordered in
        omega (arith, full, more);
  }

-- ---- an index that is kept

-- it has room for all addresses that have a value
pub live_within : (slots : List Word) (lent : Lent) → IsIndex slots (slot_for (lent_entries lent))
    → live_in (meaning slots) ≤ lent_room lent
live_within slots lent indexes =
    let entries = lent_entries lent in
    let few =
    few_of entries
    (λ (address : ℕ) (held : is_some (slot_for entries address) ≡ true).
    let number = some_is (slot_for entries address) held in
    proper_if slots address number.0 (meaning slots address)
    (ap (λ slot. said_at slots slot address) (sym number.1) ∙ indexes address)) in
    let same =
    alike (slot_for entries) (meaning slots)
    (λ address. alike_held slots (slot_for entries address) (meaning slots address) address
    (indexes address)) 65534 in
    omega (arith, few, same, length-take lent.count lent.memory)

-- nothing is found in slots that give no address a value
pub index_of_none : (slots : List Word) (entries : List (ℕ × ℕ)) → entries ≡ []
    → ((address : ℕ) → meaning slots address ≡ None) → IsIndex slots (slot_for entries)
index_of_none slots entries e none address = rw (e, none address) refl

-- ---- an append

-- a value for a new address finds no room
pub small_for : (device : Device) (layout : Layout) (entries : List (ℕ × ℕ)) (room address : ℕ)
    → HasIndex device layout entries → AreInOrder entries → room ≤ length entries
    → slot_for entries address ≡ None → IsTooSmallFor room (slots_by layout device) address
small_for device layout entries room address kept ordered full absent =
    let slots = slots_of (set_of layout.side device) in
    inr (
      omega (arith, full, live_found device layout entries kept ordered),
      has_none slots (slot_for entries) kept.indexes address absent,
    )

-- the used slots of a set say all
all_said : (device : Device) (layout : Layout) (side : Side) → IsLayout device layout
    → layout.side ≡ side → (address : ℕ)
    → meaning (take (fill_of (slots_of (set_of side device))) (slots_of (set_of side device)))
    address
    ≡ meaning (slots_of (set_of side device)) address
all_said device layout side found is address =
    subst
    (λ (side : Side). meaning
    (take (fill_of (slots_of (set_of side device))) (slots_of (set_of side device))) address
    ≡ meaning (slots_of (set_of side device)) address) is
    (subst
    (λ (fill : ℕ). meaning (take fill (slots_of (set_of layout.side device))) address
    ≡ meaning (slots_of (set_of layout.side device)) address) found.fill
    (all_used_said device layout found address))

module _ (slots after : List Word) (fill room : ℕ) (fill_is : fill ≡ fill_of slots)
    (free : fill < length slots)
    (as_long : length after ≡ length slots)
    (more : fill_of after ≡ fill_of slots + 1)
    (others : (slot : ℕ) → slot ≢ fill → get_or after slot Erased ≡ get_or slots slot Erased) where
  same_first : (count : ℕ) → count ≤ fill → take count after ≡ take count slots
  same_first count few =
      let one : length (take count after) ≡ count = length-take-le count after (omega arith) in
      let other : length (take count slots) ≡ count = length-take-le count slots (omega arith) in
      ext_get_or Erased (take count after) (take count slots) (one ∙ sym other)
      (λ place h. get_or-take count after place Erased (omega arith)
      ∙ others place (omega arith)
      ∙ sym (get_or-take count slots place Erased (omega arith)))

  stays_small : WasTooSmall room slots → WasTooSmall room after
  stays_small was = record {
    used = was.used;
    within = omega (arith, was.within);
    too_many =
        subst (λ (words : List Word). room < live_in (meaning words))
        (sym (same_first was.used (omega (arith, was.within)))) was.too_many;
  }

  becomes_small : (address value : ℕ)
      → (room ≤ live_in (meaning slots)) × (meaning slots address ≡ None) → IsAddress address
      → ((named : ℕ) → meaning after named ≡ map_after (Put address value) (meaning slots) named)
      → ((named : ℕ) → meaning (take (fill_of after) after) named ≡ meaning after named)
      → WasTooSmall room after
  becomes_small address value new proper is all = record {
    used = fill_of after;
    within = omega arith;
    too_many =
        let counts =
        same_counts (meaning (take (fill_of after) after))
        (map_after (Put address value) (meaning slots)) (λ named. all named ∙ is named) in
        omega (arith, new.0, counts, counted address value (meaning slots) new.1 proper);
  }

  small_behind : (change : declared.Change)
      → IsReadyToMake (WasTooSmall room slots) (IsTooSmallFor room slots) change
      → SpellsChange (number_written change) (map_change change)
      → ((named : ℕ) → meaning after named ≡ map_after (map_change change) (meaning slots) named)
      → ((named : ℕ) → meaning (take (fill_of after) after) named ≡ meaning after named)
      → WasTooSmall room after
  small_behind (kinds.Put address value) (inl was) spells is all = stays_small was
  small_behind (kinds.Put address value) (inr new) spells is all =
      becomes_small address value new spells.0 is all
  small_behind (kinds.Forget address value) was spells is all = stays_small was

-- room that is too small, or is so for a change, is too small behind it
pub small_appended : (old new : Device) (layout after : Layout) (change : declared.Change)
    (room : ℕ)
    → IsLayout old layout → layout.fill < slot_count old.size
    → ChangeWritten old new layout after change
    → IsReadyToMake (WasTooSmall room (slots_by layout old))
    (IsTooSmallFor room (slots_by layout old)) change
    → WasTooSmall room (slots_by after new)
small_appended old new layout after change room found free done ready =
    let side = layout.side in
    let formed = done.takes.live.formed in
    let sizes = done.takes.same_size in
    subst (λ (side : Side). WasTooSmall room (slots_of (set_of side new))) (sym done.same_set)
    (small_behind (slots_of (set_of side old)) (slots_of (set_of side new)) layout.fill room
    found.fill
    (rw (length-slots side old found.live.formed) free)
    (length-slots side new formed ∙ ap slot_count sizes
    ∙ sym (length-slots side old found.live.formed))
    done.takes.one_more
    (other_slots side old new layout.generation layout.fill (number_written change) found.live
    formed sizes found.fill free done.drawn)
    change ready done.spells done.takes.map_is
    (all_said new after side done.layout_is done.same_set))

-- ---- a transfer

-- behind a transfer each used slot is that of an address of its own
pub small_moved : (old new : Device) (layout after : Layout) (changes : List Change)
    (words : List Word) (room : ℕ)
    → SetMoved old new layout after changes words → room < after.fill
    → WasTooSmall room (slots_by after new)
small_moved old new layout after changes words room done more =
    let side = other layout.side in
    let slots = slots_of (set_of side new) in
    let counts =
    same_counts (meaning (take (fill_of slots) slots)) (changed_by changes (map_in layout.side old))
    (λ address. all_said new after side done.layout_is done.other_set address
    ∙ done.moved.map_is address) in
    let fill : after.fill ≡ fill_of slots =
    done.layout_is.fill
    ∙ ap (λ (side : Side). fill_of (slots_of (set_of side new))) done.other_set in
    subst (λ (side : Side). WasTooSmall room (slots_of (set_of side new))) (sym done.other_set)
    record {
      used = fill_of slots;
      within = omega arith;
      too_many = omega (arith, more, fill, counts, done.moved.fill_is);
    }

-- ---- room for values that are about to be put

changed_proper : (puts : List listed.Put) (place : ℕ) (map : Map) → AreApart (puts_of puts)
    → ((address : ℕ) → is_some (map address) ≡ true → IsAddress address) → (address : ℕ)
    → is_some (changed_by (puts_of (take place puts)) map address) ≡ true → IsAddress address
changed_proper _ zero _ _ proper address held = proper address held
changed_proper [] (suc _) _ _ proper address held = proper address held
changed_proper (put ∷ puts) (suc place) map each proper address held =
    changed_proper puts place (map_after (Put put.address put.value) map) each.2
    (λ named has. elim (cases_eq named put.address) [
      | inl is ↦ subst IsAddress (sym is) each.0
      | inr apart ↦ proper named
          (ap is_some (sym (put-other map put.address put.value named apart)) ∙ has)
    ]) address held

module _ (puts : List listed.Put) (place : ℕ) (put : listed.Put) (within : place < length puts)
    (is : put ≡ get_or puts place put) (old now : List (ℕ × ℕ)) (ordered : AreInOrder now)
    (so_far : HasAddresses (slot_for now) (changed_by (puts_of (take place puts)) (slot_for old)))
    (absent : slot_for old put.address ≡ None) where
  overfills : (room : ℕ) → room ≤ length now → OverfillsIndex room (slot_for old) puts
  overfills room full map same proper each =
      let before = changed_by (puts_of (take place puts)) map in
      let addresses : HasAddresses (slot_for now) before =
      λ address. so_far address
      ∙ changed_alike (puts_of (take place puts)) (slot_for old) map same address in
      let count =
      count_of now ordered
      (λ address held. changed_proper puts place map each proper address
      (sym (addresses address) ∙ held))
      ∙ alike (slot_for now) before addresses 65534 in
      let none : is_some (map put.address) ≡ false = sym (same put.address) ∙ ap is_some absent in
      let more = one_counted map puts each place put within is in
      record {
        used = place + 1;
        within = omega (arith, within);
        too_many = let one = rw none at more in omega (arith, full, count, one);
      }

  -- where the room is known, it is too small for them
  pub overfills_known : (room : Option ℕ) → IfSome room (λ room. room ≤ length now)
      → IfSome room (λ room. OverfillsIndex room (slot_for old) puts)
  overfills_known None _ = tt
  overfills_known (Some room) full = overfills room full

pub too_small_to_move : (slots : List Word) (entries : List (ℕ × ℕ)) (puts : List listed.Put)
    (room : ℕ) → IsIndex slots (slot_for entries) → OverfillsIndex room (slot_for entries) puts
    → IsTooSmallToMove room slots puts
too_small_to_move slots entries puts room indexes overfills each =
    let same : HasAddresses (slot_for entries) (meaning slots) =
    λ address. alike_held slots (slot_for entries address) (meaning slots address) address
    (indexes address) in
    inr (overfills (meaning slots) same
    (λ address held.
    let number = some_is (slot_for entries address) (same address ∙ held) in
    proper_if slots address number.0 (meaning slots address)
    (ap (λ slot. said_at slots slot address) (sym number.1) ∙ indexes address))
    each)
