-- What a transfer makes of an index: each address stands where its place in the order says.
use Rattle.std.proofs.Common.{◌≡◌, ◌≢◌, inl, inr, ℕ, ◌+◌, ◌<◌, ◌≤◌, Bool, cond, true, false, Some, None, is_some, List, [], ◌∷◌, ◌++◌, length, get_or, refl, sym, subst, ap, ◌∙◌, arith, length-append, rules}
use Rattle.std.specs.Prelude.{◌==◌, ◌||◌}
use Rattle.std.proofs.Math.Seq.{get_or-append_seam}
use Rattle.std.proofs.lemmas.Bool.{cases_Bool, cases_eq, cases_lt, eqb-true, lt-ltb}
use Rattle.std.proofs.lemmas.Grind.{common_steps}
use Rattle.std.proofs.lemmas.List.{append_assoc}
use Rattle.std.proofs.lemmas.Map.Keys.{sorted_tail}
use Rattle.std.specs.List.Sorted.{IsStrictlySortedBy}
use Rattle.std.specs.Map.{keys_of}
use Rattle.std.specs.Ordering.{nat_cmp}
use Rattle.ee_flash.specs.Device.{Device, IsFormed}
use Rattle.ee_flash.specs.Size.{Size, slot_count}
use Rattle.ee_flash.specs.declared.word.Word.{Word}
use Rattle.ee_flash.specs.declared.word.Word.TheVariants.{Erased, Held}
use Rattle.ee_codec.specs.Words.{IsAddress, element}
use Rattle.ee_pages.specs.Meaning.{Change, Forget, Map, Put, changed_by, map_after, meaning}
use Rattle.ee_pages.specs.LiveOrder.{IsNextLive}
use Rattle.ee_pages.specs.Pending.{address_of}
use Rattle.ee_pages.specs.Sets.{place_of_slot, set_of, slots_of}
use Rattle.ee_pages.specs.declared.side.Side.{Side}
use Rattle.ee_pages.proofs.Public.{slots_before_slot}
use Rattle.ee_core.specs.Picture.{IsDrawn, elements_of, elements_to, filled_set, map_without, moved_words, put_words}
use Rattle.ee_core.specs.Puts.{AreApart, changes_of_puts, forgets_of, is_put, puts_of}
use Rattle.ee_core.specs.declared.change.Put as listed
use Rattle.ee_core.proofs.Public.{changed_by-other, elements_front, length-put_words, live_few, moved_words_are_live_lem, names-puts, next_element, no_words, none_between, put-at, puts_within, without-at, without-other}
use Rattle.ee_index.specs.Index.{HasAddresses, IsIndex, IsRoomFor, numbered_slots, listed_place, said_at, says_value, slot_for}
use Rattle.ee_index.proofs.IndexReaders.{absent_to, none_unless, put_elsewhere, put_there}
use Rattle.ee_index.proofs.IndexedAppends.{drawn_slot}
use Rattle.ee_index.proofs.IndexedRooms.{changed_alike}
use Rattle.ee_index.proofs.IndexedStores.{alike, count_of, some_is}

-- ---- where a copied word stands

module _ (map : Map) (above next value : ℕ) (is : IsNextLive map above (Some (next, value)))
    (proper : next < 65535) where
  seam : (rest : List Word)
      × (elements_of map ≡ elements_to map above ++ Held (element next value) ∷ rest)
  seam =
      let rest = elements_front map next 65534 (omega arith) in (
        rest.0,
        rest.1
            ∙ ap (λ (words : List Word). words ++ rest.0) (next_element map above next value is)
            ∙ append_assoc (elements_to map above) (Held (element next value) ∷ []) rest.0,
      )

  pub copied_there : get_or (elements_of map) (length (elements_to map above)) Erased
      ≡ Held (element next value)
  copied_there = search (rules, get_or-append_seam, seam)

  pub copied_within : length (elements_to map above) < length (elements_of map)
  copied_within = search (rules, length-append, seam)

-- ---- entry by entry

held_as_numbered : (puts : List listed.Put) (number : ℕ) (entries : List (ℕ × ℕ)) (address : ℕ)
    → is_some (slot_for (numbered_slots puts number entries) address) ≡ true
    → is_some (slot_for entries address) ≡ true
held_as_numbered _ _ [] _ held = held
held_as_numbered puts number (entry ∷ rest) address held = elim (cases_eq entry.0 address) [
  | inl same ↦ ap is_some (put_there entry rest address same)
  | inr apart ↦
      let behind =
      λ (slot next : ℕ) (is : is_some
      (slot_for ((entry.0, slot) ∷ numbered_slots puts next rest) address)
      ≡ true).
      ap is_some (put_elsewhere entry rest address apart)
      ∙ held_as_numbered puts next rest address
      (sym
      (ap is_some
      (put_elsewhere (entry.0, slot) (numbered_slots puts next rest) address
      apart))
      ∙ is) in
      search rules
]

-- the slots behind a transfer: the values that are put, and behind them the elements of the others
pub record IsMovedTo (puts : List listed.Put) (others : Map) (slots : List Word) : Type 0 where
  pub copied : (place : ℕ) → place < length (elements_of others)
      → get_or slots (length puts + place) Erased ≡ get_or (elements_of others) place Erased
  pub put_says : (address : ℕ) → is_put puts address ≡ true
      → said_at slots (Some (listed_place puts address)) address
      ≡ says_value (meaning slots address)
  pub put_only : (address : ℕ) → is_put puts address ≡ true → others address ≡ None
  pub others_are : (address : ℕ) → is_put puts address ≡ false
      → others address ≡ meaning slots address
  pub proper : (address : ℕ) → is_some (meaning slots address) ≡ true → IsAddress address

module _ (puts : List listed.Put) (others : Map) (slots : List Word)
    (moved : IsMovedTo puts others slots) where
  -- what is known of the entries behind an address
  record IsBehind (above : ℕ) (entries : List (ℕ × ℕ)) : Type 0 where
    pub sorted : IsStrictlySortedBy nat_cmp (keys_of entries)
    pub behind : (address : ℕ) → is_some (slot_for entries address) ≡ true → above < address
    pub same : (address : ℕ) → above < address
        → is_some (slot_for entries address) ≡ is_some (meaning slots address)

  abbrev IsSaid : List (ℕ × ℕ) → ℕ → Type 0
  IsSaid entries address =
      said_at slots (slot_for entries address) address ≡ says_value (meaning slots address)

  not_said : (entries : List (ℕ × ℕ)) (address : ℕ) → slot_for entries address ≡ None
      → meaning slots address ≡ None → IsSaid entries address
  not_said entries address none nothing = rw (none, nothing) refl

  module _ (above : ℕ) (entry : ℕ × ℕ) (rest : List (ℕ × ℕ))
      (so_far : IsBehind above (entry ∷ rest)) where
    above_entry : above < entry.0
    above_entry = so_far.behind entry.0 (ap is_some (put_there entry rest entry.0 refl))

    rest_above : (address : ℕ) → is_some (slot_for rest address) ≡ true → entry.0 < address
    rest_above = absent_to entry rest so_far.sorted

    rest_behind : IsBehind entry.0 rest
    rest_behind = search (rules, above_entry, put_elsewhere, rest_above, sorted_tail)

    nothing_between : (address : ℕ) → above < address → address < entry.0
        → meaning slots address ≡ None
    nothing_between address high low = search (rules, none_unless, put_elsewhere, rest_above)

    others_between : (address : ℕ) → above < address → address < entry.0 → others address ≡ None
    others_between address high low = search (rules, cases_Bool, nothing_between)

    -- an address that is not this entry's
    elsewhere : (slot next address : ℕ)
        → ((address : ℕ) → entry.0 < address → IsSaid (numbered_slots puts next rest) address)
        → above < address → entry.0 ≢ address
        → IsSaid ((entry.0, slot) ∷ numbered_slots puts next rest) address
    elsewhere slot next address later high apart =
        let left = put_elsewhere (entry.0, slot) (numbered_slots puts next rest) address apart in
        ap (λ slot. said_at slots slot address) left
        ∙ elim (cases_lt entry.0 address) [
          | inl further ↦ later address further
          | inr within ↦
              let none : slot_for (numbered_slots puts next rest) address ≡ None =
              none_unless (slot_for (numbered_slots puts next rest) address)
              (λ held. omega (
                arith,
                within,
                rest_above address
                    (held_as_numbered puts next rest address held),
              )) in
              let before : address < entry.0 = omega (arith, within, apart) in
              not_said (numbered_slots puts next rest) address none
              (nothing_between address high before)
        ]

    value_here : (value : ℕ) × (meaning slots entry.0 ≡ Some value)
    value_here = search (rules, some_is, above_entry, is_some, put_there)

    next_copied : is_put puts entry.0 ≡ false
        → IsNextLive others above (Some (entry.0, value_here.0))
    next_copied other = search (rules, above_entry, value_here, others_between)

    proper_here : IsAddress entry.0
    proper_here = moved.proper entry.0 (ap is_some value_here.1)

    -- the entry's word
    says_here : (number : ℕ) → number ≡ length puts + length (elements_to others above)
        → is_put puts entry.0 ≡ false
        → said_at slots (Some number) entry.0 ≡ says_value (meaning slots entry.0)
    says_here number counted other =
        let is = next_copied other in
        let word : get_or slots number Erased ≡ Held (element entry.0 value_here.0) =
        ap (λ n. get_or slots n Erased) counted
        ∙ moved.copied (length (elements_to others above))
        (copied_within others above entry.0 value_here.0 is proper_here.1)
        ∙ copied_there others above entry.0 value_here.0 is proper_here.1 in
        grind (arith, common_steps)

  numbered_behind : (above number : ℕ) (entries : List (ℕ × ℕ))
      → number ≡ length puts + length (elements_to others above) → IsBehind above entries
      → (address : ℕ) → above < address → IsSaid (numbered_slots puts number entries) address
  numbered_behind above number [] counted so_far address high = search rules
  numbered_behind above number (entry ∷ rest) counted so_far address high =
      elim (cases_Bool (is_put puts entry.0)) [
        | inl here ↦
            let same : elements_to others entry.0 ≡ elements_to others above =
            none_between others above entry.0 (search rules) (λ named low high. elim
            (cases_lt named entry.0) [
              | inl before ↦ search (rules, others_between)
              | inr last ↦ grind (arith, common_steps)
            ]) in
            let later =
            numbered_behind entry.0 number rest
            (counted ∙ ap (λ (words : List Word). length puts + length words) (sym same))
            (rest_behind above entry rest so_far) in
            rw here (elim (cases_eq entry.0 address) [
              | inl is ↦ search rules
              | inr apart ↦ elsewhere above entry rest so_far (listed_place puts entry.0) number
                  address
                  later high apart
            ])
        | inr other ↦
            let more =
            next_element others above entry.0 (value_here above entry rest so_far).0
            (next_copied above entry rest so_far other) in
            let long =
            ap length more
            ∙ length-append (elements_to others above)
            (Held (element entry.0 (value_here above entry rest so_far).0) ∷ []) in
            let later =
            numbered_behind entry.0 (number + 1) rest (omega (arith, counted, long))
            (rest_behind above entry rest so_far) in
            rw other (elim (cases_eq entry.0 address) [
              | inl is ↦
                  search (rules, put_there, says_here)
              | inr apart ↦ elsewhere above entry rest so_far number (number + 1) address later high
                  apart
            ])
      ]

-- ---- the index behind a transfer

-- the slots of a set that is filled
pub filled_slot : (side : Side) (device : Device) (size : Size) (generation slot : ℕ)
    (words : List Word)
    → IsFormed device → device.size ≡ size → slot < slot_count device.size
    → IsDrawn side device (filled_set size generation words)
    → get_or (slots_of (set_of side device)) slot Erased ≡ get_or words slot Erased
filled_slot side device size generation slot words formed sizes within drawn =
    let place : 3 < place_of_slot device.size slot = omega arith in
    drawn_slot side device (filled_set size generation words) slot formed within drawn
    ∙ rw (sym sizes, lt-ltb 3 (place_of_slot device.size slot) place)
    (ap (λ n. get_or words n Erased) (slots_before_slot device slot))

-- ---- what a list of changes gives a value

-- where a map has proper addresses alone, so it has behind changes of proper ones
pub changed_proper : (changes : List Change) (map : Map) → AreApart changes
    → ((address : ℕ) → is_some (map address) ≡ true → IsAddress address) → (address : ℕ)
    → is_some (changed_by changes map address) ≡ true → IsAddress address
changed_proper [] _ _ proper = proper
changed_proper (change ∷ changes) map each proper =
    changed_proper changes (map_after change map) each.2 (search rules)
  where
    as_before : (change : Change) (address : ℕ) → address ≢ address_of change
        → is_some (map_after change map address) ≡ true → is_some (map address) ≡ true
    as_before (Put named value) address apart held = search rules
    as_before (Forget named) address apart held = search rules

-- what the words say of an address that is put
record IsPutThere (puts : List listed.Put) (map : Map) (more : List Word) (address : ℕ)
    : Type 0 where
  pub value : ℕ
  pub held : changed_by (puts_of puts) map address ≡ Some value
  pub word : get_or (put_words (puts_of puts) ++ more) (listed_place puts address) Erased
      ≡ Held (element address value)
  pub within : listed_place puts address < length puts
  pub proper : IsAddress address

is_put_there : (puts : List listed.Put) (map : Map) (more : List Word) (address : ℕ)
    → AreApart (puts_of puts) → is_put puts address ≡ true → IsPutThere puts map more address
is_put_there [] map more address each is = absurd (cc is)
is_put_there (put ∷ puts) map more address each is = elim (cases_Bool (put.address == address)) [
  | inl here ↦
      let same : put.address ≡ address = eqb-true put.address address here in
      let place : listed_place (put ∷ puts) address ≡ 0 = search rules in
      record {
        value = put.value;
        held =
            search (rules, changed_by-other, put-at);
        word = search rules;
        within = omega (arith, place);
        proper = subst IsAddress same each.0;
      }
  | inr apart ↦
      let later =
      is_put_there puts (map_after (Put put.address put.value) map) more address each.2
      (the_later (put.address == address) (is_put puts address) is apart) in
      search rules
]
  where
    the_later : (x y : Bool) → (x || y) ≡ true → x ≡ false → y ≡ true
    the_later true y e none = absurd (cc none)
    the_later false y e none = e

-- forgettings put nothing, and leave what they don't name
forgets_nothing : (puts : List listed.Put) → put_words (forgets_of puts) ≡ []
forgets_nothing [] = refl
forgets_nothing (_ ∷ puts) = forgets_nothing puts

forgets_leave : (puts : List listed.Put) (map : Map)
    → map_without (forgets_of puts) map ≡ changed_by (forgets_of puts) map
forgets_leave [] _ = refl
forgets_leave (put ∷ puts) map = forgets_leave puts (map_after (Forget put.address) map)

-- ---- the index of the slots that a transfer filled

abbrev IsFilledWith : List Word → List Word → Type 0
IsFilledWith slots words =
    (place : ℕ) → place < length words → get_or slots place Erased ≡ get_or words place Erased

moved_puts : (puts : List listed.Put) (map : Map) (slots : List Word) → AreApart (puts_of puts)
    → IsFilledWith slots (moved_words (puts_of puts) map)
    → ((address : ℕ) → meaning slots address ≡ changed_by (puts_of puts) map address)
    → ((address : ℕ) → is_some (meaning slots address) ≡ true → IsAddress address)
    → IsMovedTo puts (map_without (puts_of puts) map) slots
moved_puts puts map slots each there now proper =
    let more = elements_of (map_without (puts_of puts) map) in
    let front = length-put_words puts in
    let long = length-append (put_words (puts_of puts)) more in
    record {
      copied = grind (arith, common_steps);
      put_says = λ address is.
          let here = is_put_there puts map more address each is in
          search rules;
      put_only = search (rules, without-at, names-puts);
      others_are = search (rules, names-puts, without-other, changed_by-other);
      proper = proper;
    }

moved_forgets : (puts : List listed.Put) (map : Map) (slots : List Word)
    → IsFilledWith slots (moved_words (forgets_of puts) map)
    → ((address : ℕ) → meaning slots address ≡ changed_by (forgets_of puts) map address)
    → ((address : ℕ) → is_some (meaning slots address) ≡ true → IsAddress address)
    → IsMovedTo [] (map_without (forgets_of puts) map) slots
moved_forgets puts map slots there now proper = search (rules, forgets_nothing, forgets_leave)

-- the values that changes put
abbrev pub values : List listed.Put → Bool → List listed.Put
values puts forgets = cond forgets [] puts

moved_to : (puts : List listed.Put) (forgets : Bool) (map : Map) (slots : List Word)
    → AreApart (changes_of_puts puts forgets)
    → IsFilledWith slots (moved_words (changes_of_puts puts forgets) map)
    → ((address : ℕ)
    → meaning slots address ≡ changed_by (changes_of_puts puts forgets) map address)
    → ((address : ℕ) → is_some (meaning slots address) ≡ true → IsAddress address)
    → IsMovedTo (values puts forgets) (map_without (changes_of_puts puts forgets) map) slots
moved_to puts true map slots _ there now proper = moved_forgets puts map slots there now proper
moved_to puts false map slots each there now proper =
    moved_puts puts map slots each there now proper

values_apart : (puts : List listed.Put) (forgets : Bool) → AreApart (changes_of_puts puts forgets)
    → AreApart (puts_of (values puts forgets))
values_apart _ true _ = tt
values_apart _ false each = each

module _ (before : List Word) (puts : List listed.Put) (forgets : Bool) (held : List (ℕ × ℕ))
    (each : AreApart (changes_of_puts puts forgets))
    (room : IsRoomFor before (values puts forgets) (slot_for held)) where
  -- whatever has a value is of a proper address
  before_proper : (address : ℕ) → is_some (meaning before address) ≡ true → IsAddress address
  before_proper = search rules

  pub held_proper : (address : ℕ) → is_some (slot_for held address) ≡ true → IsAddress address
  held_proper address some = search (rules, changed_proper, values_apart, before_proper)

  module _ (slots : List Word) (left : List (ℕ × ℕ))
      (left_is : (address : ℕ)
      → slot_for left address
      ≡ changed_by (forgets_of (cond forgets puts [])) (slot_for held) address)
      (now : (address : ℕ)
      → meaning slots address
      ≡ changed_by (changes_of_puts puts forgets) (meaning before) address) where
    left_addresses : HasAddresses (slot_for left) (meaning slots)
    left_addresses address = search (rules, is_some, changed_alike)

    proper_now : (address : ℕ) → is_some (meaning slots address) ≡ true → IsAddress address
    proper_now address live = search (rules, changed_proper, before_proper, is_some)

    pub moved_index : IsStrictlySortedBy nat_cmp (keys_of left)
        → IsFilledWith slots (moved_words (changes_of_puts puts forgets) (meaning before))
        → IsIndex slots
        (slot_for (numbered_slots (values puts forgets) (length (values puts forgets)) left))
    moved_index sorted there address =
        let put = values puts forgets in
        let others = map_without (changes_of_puts puts forgets) (meaning before) in
        let moved = moved_to puts forgets (meaning before) slots each there now proper_now in
        let counted : length put ≡ length put + length (elements_to others 0) =
        search (rules, no_words) in
        let all =
        numbered_behind put others slots moved 0 (length put) left counted
        record {
          sorted = sorted;
          behind =
              λ address some.
              (proper_now address (sym (left_addresses address) ∙ some)).0;
          same = λ address high. left_addresses address;
        } in
        elim (cases_lt 0 address) [
          | inl high ↦ all address high
          | inr low ↦
              let nothing : meaning slots address ≡ None = search rules in
              let none : slot_for (numbered_slots put (length put) left) address ≡ None =
              none_unless (slot_for (numbered_slots put (length put) left) address)
              (search (rules, proper_now, left_addresses, held_as_numbered)) in
              rw (none, nothing) refl
        ]

-- two bytes hold the numbers that a transfer gives
pub few_numbered : (before : List Word) (puts : List listed.Put) (forgets : Bool)
    (held : List (ℕ × ℕ))
    → AreApart (changes_of_puts puts forgets)
    → IsRoomFor before (values puts forgets) (slot_for held)
    → IsStrictlySortedBy nat_cmp (keys_of held) → (fill : ℕ)
    → fill ≡ length (moved_words (changes_of_puts puts forgets) (meaning before)) → fill ≤ 32512
    → length (values puts forgets) + length held < 65536
few_numbered before puts true held each room ordered fill is few =
    search (rules, count_of, held_proper, live_few)
few_numbered before puts false held each room ordered fill is few =
    let same =
    alike (slot_for held) (changed_by (puts_of puts) (meaning before)) room.addresses 65534 in
    omega (
      arith,
      count_of held ordered (held_proper before puts false held each room),
      same,
      moved_words_are_live_lem (puts_of puts) (meaning before) each,
      puts_within puts (meaning before) each,
      is,
      few,
    )
