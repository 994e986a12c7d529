-- How room is made in an index for values that are put, and how addresses that are
-- forgotten leave it.
use Rattle.std.proofs.lemmas.Grind.{common_steps}
use Rattle.std.proofs.Common.{◌≡◌, inl, inr, ℕ, ◌+◌, ◌<◌, ◌≤◌, Bool, cond, true, false, Option, Some, None, nat_lt, is_some, not, List, [], ◌∷◌, ◌++◌, length, get_or, take, refl, sym, ap, ◌∙◌, arith, suc, zero, rules}
use mir.Val.{bool_byte}
use Rattle.std.proofs.lemmas.Bool.{cases_eq, cases_lt, lt-ltb}
use Rattle.std.proofs.lemmas.List.{take_more}
use Rattle.std.proofs.lemmas.Map.Keys.{sorted_tail}
use Rattle.std.specs.List.{filter}
use Rattle.std.specs.List.Sorted.{IsStrictlySortedBy}
use Rattle.std.specs.Map.{keys_of}
use Rattle.std.specs.Ordering.{nat_cmp}
use Rattle.ee_flash.specs.Device.{Device}
use Rattle.ee_flash.specs.declared.word.Word.{Word}
use Rattle.ee_flash.specs.declared.word.Word.TheVariants.{Erased, Held, Torn}
use Rattle.ee_pages.specs.Meaning.{Change, Forget, Map, Put, changed_by, live_in, map_after, meaning, says}
use Rattle.ee_pages.specs.Page.{is_written}
use Rattle.ee_pages.specs.Sets.{set_of, slots_of}
use Rattle.ee_pages.specs.declared.find.Layout.{Layout}
use Rattle.ee_pages.proofs.Public.{fill-front, slots_behind}
use Rattle.ee_core.specs.Puts.{AreApart, HasNew, forgets_of, puts_of}
use Rattle.ee_core.specs.State.{state_of}
use Rattle.ee_core.specs.declared.change.Put as listed
use Rattle.ee_core.proofs.Public.{changed_by-append, forget-at, forget-other, map_with_more, one_counted, put-at, put-other}
use Rattle.ee_index.specs.Index.{HasAddresses, HasIndex, IsRoomFor, IsShownSame, said_at, shown_index, slot_for}
use Rattle.ee_index.proofs.IndexReaders.{absent_to, none_unless, put_elsewhere, put_there, shown_hidden}
use Rattle.ee_index.proofs.IndexedStores.{no_value}
use Rattle.ee_index.proofs.Indexing.{stands}

-- ---- what changes give a value

put_alike : (named one other : ℕ) (first second : Map) → HasAddresses first second
    → HasAddresses (map_after (Put named one) first) (map_after (Put named other) second)
put_alike named one other first second same address = search rules

-- maps that give the same addresses a value still do so behind changes
pub changed_alike : (changes : List Change) (first second : Map) → HasAddresses first second
    → HasAddresses (changed_by changes first) (changed_by changes second)
changed_alike [] _ _ same = same
changed_alike (change ∷ changes) first second same =
    changed_alike changes (map_after change first) (map_after change second) (one change)
  where
    one : (change : Change) → HasAddresses (map_after change first) (map_after change second)
    one (Put named value) address = put_alike named value value first second same address
    one (Forget named) address = search rules

-- an address with a value keeps one behind values that are put
puts_keep : (puts : List listed.Put) (map : Map) (address : ℕ) → is_some (map address) ≡ true
    → is_some (changed_by (puts_of puts) map address) ≡ true
puts_keep [] _ _ held = held
puts_keep (put ∷ puts) map address held =
    puts_keep puts (map_after (Put put.address put.value) map) address (elim
    (cases_eq address put.address) [
      | inl is ↦ ap is_some (put-at map put.address put.value address is)
      | inr apart ↦ ap is_some (put-other map put.address put.value address apart) ∙ held
    ])

-- ---- an address is entered, if it is new

module _ (fill : ℕ) (puts : List listed.Put) (place : ℕ) (put : listed.Put)
    (within : place < length puts) (is : put ≡ get_or puts place put)
    (old now next : List (ℕ × ℕ)) where
  -- one value more is entered
  pub entered_more : HasAddresses (slot_for now)
      (changed_by (puts_of (take place puts)) (slot_for old))
      → HasAddresses (slot_for next) (map_after (Put put.address fill) (slot_for now))
      → HasAddresses (slot_for next) (changed_by (puts_of (take (place + 1) puts)) (slot_for old))
  entered_more so_far entered address = search (rules, put_alike, is_some, map_with_more)

  -- it is of a new address, if it is not there yet
  pub was_new : HasAddresses (slot_for now) (changed_by (puts_of (take place puts)) (slot_for old))
      → slot_for now put.address ≡ None → slot_for old put.address ≡ None
  was_new so_far none = search (rules, none_unless, puts_keep)

pub has_new : (puts : List listed.Put) (map : Map) (place : ℕ) (put : listed.Put)
    → place < length puts → put ≡ get_or puts place put → map put.address ≡ None → HasNew puts map
has_new [] map place put within is none = absurd (omega (arith, within))
has_new (first ∷ puts) map zero put within is none = search rules
has_new (first ∷ puts) map (suc place) put within is none =
    inr (has_new puts map place put (omega (arith, within)) is none)

pub new_in : (puts : List listed.Put) (first second : Map)
    → ((address : ℕ) → first address ≡ None → second address ≡ None) → HasNew puts first
    → HasNew puts second
new_in [] _ _ _ never = never
new_in (put ∷ _) _ _ same (inl none) = inl (same put.address none)
new_in (_ ∷ puts) first second same (inr later) = inr (new_in puts first second same later)

-- ---- hidden addresses are taken out again

pub kept_shown : (shown : ℕ → Bool) (entries : List (ℕ × ℕ))
    → IsStrictlySortedBy nat_cmp (keys_of entries) → (address : ℕ)
    → slot_for (filter (λ entry. shown entry.1) entries) address
    ≡ shown_index shown (slot_for entries) address
kept_shown _ [] _ _ = refl
kept_shown shown (first ∷ rest) sorted address =
    by (shown first.1) refl
    (kept_shown shown rest (sorted_tail nat_cmp first.0 (keys_of rest) sorted) address)
  where
    absent : first.0 ≡ address → slot_for rest address ≡ None
    absent is =
        none_unless (slot_for rest address)
        (λ held. omega (arith, is, absent_to first rest sorted address held))

    by : (shows : Bool) → shown first.1 ≡ shows
        → slot_for (filter (λ entry. shown entry.1) rest) address
        ≡ shown_index shown (slot_for rest) address
        → slot_for
        (cond shows (first ∷ filter (λ entry. shown entry.1) rest)
        (filter (λ entry. shown entry.1) rest)) address
        ≡ shown_index shown (slot_for (first ∷ rest)) address
    by true shows later = search rules
    by false hides later = search (rules, cases_eq, absent, shown_hidden, put_there, put_elsewhere)

-- ---- addresses leave it

forgets-append : (puts more : List listed.Put)
    → forgets_of (puts ++ more) ≡ forgets_of puts ++ forgets_of more
forgets-append [] _ = refl
forgets-append (put ∷ puts) more = search (rules, (forgets-append puts more))

pub forgets_more : (map : Map) (puts : List listed.Put) (place : ℕ) (put : listed.Put)
    → place < length puts → put ≡ get_or puts place put
    → changed_by (forgets_of (take (place + 1) puts)) map
    ≡ map_after (Forget put.address) (changed_by (forgets_of (take place puts)) map)
forgets_more map puts place put within is =
    grind (arith, common_steps, take_more, forgets-append, changed_by-append)

pub left_more : (puts : List listed.Put) (place : ℕ) (put : listed.Put)
    (within : place < length puts) (is : put ≡ get_or puts place put) (old now next : Map)
    → ((address : ℕ) → now address ≡ changed_by (forgets_of (take place puts)) old address)
    → ((address : ℕ) → next address ≡ map_after (Forget put.address) now address) → (address : ℕ)
    → next address ≡ changed_by (forgets_of (take (place + 1) puts)) old address
left_more puts place put within is old now next so_far left address =
    search (rules, forgets_more, cases_eq, forget-at, forget-other)

-- ---- the index of a store, in which room is made

silent : (word : Word) (address : ℕ) (said : Option ℕ) → is_written word ≡ false
    → says word address ≡ Some said → ⊥
silent Erased address said none e = absurd (cc e)
silent Torn address said none e = absurd (cc e)
silent (Held number) address said none e = absurd (cc none)

module _ (device : Device) (layout : Layout) (entries : List (ℕ × ℕ))
    (kept : HasIndex device layout entries) where
  abbrev live_slots : List Word
  live_slots = slots_of (set_of layout.side device)

  -- its slots are used
  used_slot : (address number : ℕ) → slot_for entries address ≡ Some number
      → nat_lt number layout.fill ≡ true
  used_slot address number e = elim (cases_lt number layout.fill) [
    | inl within ↦ lt-ltb number layout.fill within
    | inr past ↦
        let live = kept.found.live in
        let here = stands live_slots (slot_for entries) kept.indexes address number e in
        absurd (silent (get_or live_slots number Erased) address (Some here.value)
        (slots_behind layout.side device layout.generation live.formed live.allowed number
        (omega (
          arith,
          past,
          kept.found.fill,
          fill-front layout.side device layout.generation live.formed live.allowed,
        )))
        here.says_so)
  ]

  all_shown : (address : ℕ)
      → shown_index (λ number. nat_lt number layout.fill) (slot_for entries) address
      ≡ slot_for entries address
  all_shown address = search (rules, nat_lt, used_slot)

  has_addresses : HasAddresses (slot_for entries) (meaning live_slots)
  has_addresses address = search rules

  pub room_made : (puts : List listed.Put) (new : List (ℕ × ℕ))
      → IsShownSame layout.fill entries new
      → HasAddresses (slot_for new) (changed_by (puts_of puts) (slot_for entries))
      → IsRoomFor live_slots puts (slot_for new)
  room_made puts new shown addresses = record {
    indexes = λ address.
        ap (λ slot. said_at live_slots slot address)
        (sym
        (ap
        (λ (fill : ℕ).
        shown_index (λ number. nat_lt number fill) (slot_for new) address)
        kept.found.fill)
        ∙ shown address ∙ all_shown address)
        ∙ kept.indexes address;
    addresses = search (rules, changed_alike, has_addresses);
  }

  -- nothing is put
  pub room_as_it_is : IsRoomFor live_slots [] (slot_for entries)
  room_as_it_is = room_made [] entries (λ address. refl) (λ address. refl)

  -- there was none, and the index is as it was seen
  pub no_room : (new : List (ℕ × ℕ))
      → ((address : ℕ)
      → slot_for new address
      ≡ shown_index (λ number. nat_lt number layout.fill) (slot_for entries) address)
      → HasIndex device layout new
  no_room new is = search (rules, all_shown)

  pub new_in_map : (puts : List listed.Put) → HasNew puts (slot_for entries)
      → HasNew puts (state_of device).map
  new_in_map puts new = search (rules, new_in, no_value, is_some)

-- ---- how many addresses are new

pub worth : (held : Bool) → (bool_byte (not held) ≡ cond held 0 1) × (bool_byte (not held) ≤ 1)
worth true = (refl, omega arith)
worth false = (refl, omega arith)

module _ (puts : List listed.Put) (place : ℕ) (put : listed.Put) (within : place < length puts)
    (is : put ≡ get_or puts place put) (index : Map) (count : ℕ)
    (so_far : (map : Map) → HasAddresses index map → AreApart (puts_of puts)
    → live_in (changed_by (puts_of (take place puts)) map) ≡ live_in map + count) where
  pub counted_more : (held : Bool) → held ≡ is_some (index put.address) → (next : ℕ)
      → next ≡ count + bool_byte (not held) → (map : Map) → HasAddresses index map
      → AreApart (puts_of puts)
      → live_in (changed_by (puts_of (take (place + 1) puts)) map) ≡ live_in map + next
  counted_more held e next next_is map same each = search (rules, one_counted, worth)
