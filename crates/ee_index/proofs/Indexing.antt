-- How an index of the live addresses is read, made and kept.
use Rattle.std.proofs.Common.{◌≡◌, ℕ, ◌+◌, ◌<◌, ◌≤◌, Option, Some, None, List, [], length, take, drop, get_or, refl, sym, ap, ◌∙◌, arith, suc, rules}
use Rattle.std.proofs.Math.Seq.{take-suc}
use Rattle.std.proofs.lemmas.Bool.{cases_eq, cases_lt}
use Rattle.std.proofs.lemmas.Grind.{common_steps}
use Rattle.std.proofs.lemmas.List.{get_or_past, take-append-drop}
use Rattle.ee_flash.specs.Device.{Device}
use Rattle.ee_flash.specs.Size.{slot_count}
use Rattle.ee_flash.specs.declared.word.Word.{Word}
use Rattle.ee_flash.specs.declared.word.Word.TheVariants.{Erased}
use Rattle.ee_codec.specs.Reading.{slot_of}
use Rattle.ee_codec.specs.declared.slot.Slot.{Slot}
use Rattle.ee_codec.specs.declared.slot.Slot.TheVariants.{Free, Spoiled, Element, Forgotten, Foreign}
use Rattle.ee_pages.specs.Layout.{IsLayout}
use Rattle.ee_pages.specs.Meaning.{Map, later_of, latest_in, meaning, says, slot_says, value_said}
use Rattle.ee_pages.specs.LiveOrder.{IsNextLive}
use Rattle.ee_pages.specs.Sets.{set_of, slots_of}
use Rattle.ee_pages.specs.declared.find.Layout.{Layout}
use Rattle.ee_pages.proofs.Public.{latest_in-append, silent_behind, length-slots}
use Rattle.ee_core.proofs.Public.{few_slots, few_within}
use Rattle.ee_index.specs.Index.{IsIndex, index_with_slot, said_at, says_value, slot_for}

-- ---- slot by slot

-- an index of the first slots of these: their numbers are those of all
abbrev pub IndexesTo : List Word → ℕ → Map → Type 0
IndexesTo slots count index =
    (address : ℕ)
    → said_at slots (index address) address ≡ says_value (meaning (take count slots) address)

pub latest_further : (slots : List Word) (count address : ℕ) → count < length slots
    → latest_in (take (count + 1) slots) address
    ≡ later_of (latest_in (take count slots) address) (says (get_or slots count Erased) address)
latest_further slots count address h =
    let e : count + 1 ≡ suc count = omega arith in
    rw (e, take-suc slots count Erased h) search (rules, latest_in-append)
  where
    last_alone : (said : Option (Option ℕ)) → later_of said None ≡ said
    last_alone said = refl

module _ (slots : List Word) (count address : ℕ) (index : Map) (before : Option (Option ℕ))
    (kept : said_at slots (index address) address ≡ says_value (value_said before)) where
  -- one more slot is entered
  one_entered : (slot : Slot) → says (get_or slots count Erased) address ≡ slot_says slot address
      → said_at slots (index_with_slot slot count index address) address
      ≡ says_value (value_said (later_of before (slot_says slot address)))
  one_entered (Element named value) e = search (rules, cases_eq, common_steps)
  one_entered (Forgotten named value) e = search (rules, cases_eq, common_steps)
  one_entered Free _ = kept
  one_entered Spoiled _ = kept
  one_entered Foreign _ = kept

pub enters : (slots : List Word) (count : ℕ) (index after : Map) → count < length slots
    → ((address : ℕ)
    → after address ≡ index_with_slot (slot_of (get_or slots count Erased)) count index address)
    → IndexesTo slots count index → IndexesTo slots (count + 1) after
enters slots count index after h is kept address = search (rules, one_entered, latest_further)

module _ (device : Device) (layout : Layout) (found : IsLayout device layout) where
  pub used_within : layout.fill ≤ slot_count device.size
  used_within = search (rules, few_within)

  -- a slot that is used is one of the slots
  pub slot_within : (number : ℕ) → number < layout.fill → number < slot_count device.size
  slot_within number h = omega (arith, used_within)

  -- and so few that two bytes hold its number
  pub fill_small : layout.fill < 65536
  fill_small = search (rules, used_within, few_slots)

  pub slot_listed : (number : ℕ) → number < layout.fill
      → number < length (slots_of (set_of layout.side device))
  slot_listed number h = search (rules, used_within, length-slots)

  -- the used slots say all
  pub all_used_said : (address : ℕ)
      → meaning (take layout.fill (slots_of (set_of layout.side device))) address
      ≡ meaning (slots_of (set_of layout.side device)) address
  all_used_said address =
      let slots = slots_of (set_of layout.side device) in
      sym (ap (λ (words : List Word). meaning words address)
      (sym (take-append-drop layout.fill slots))
      ∙ ap value_said (latest_in-append (take layout.fill slots) (drop layout.fill slots) address)
      ∙ ap (λ said. value_said (later_of (latest_in (take layout.fill slots) address) said))
      (silent_behind device layout found address))

-- an index of the used slots is one of all
pub indexes_all : (device : Device) (layout : Layout) (index : Map) (count : ℕ)
    → IsLayout device layout → count ≡ layout.fill
    → IndexesTo (slots_of (set_of layout.side device)) count index
    → IsIndex (slots_of (set_of layout.side device)) index
indexes_all device layout index count found e kept address = search (rules, all_used_said)

pub indexes_none : (slots : List Word) (entries : List (ℕ × ℕ)) → entries ≡ []
    → IndexesTo slots 0 (slot_for entries)
indexes_none slots entries e address = rw e refl

-- ---- what an index tells of the map

-- a slot that an index has
pub record Stands (slots : List Word) (address number : ℕ) : Type 0 where
  pub value : ℕ
  pub held : meaning slots address ≡ Some value
  pub says_so : says (get_or slots number Erased) address ≡ Some (Some value)
  pub listed : number < length slots

listed_if_said : (slots : List Word) (address number value : ℕ)
    → says (get_or slots number Erased) address ≡ Some (Some value) → number < length slots
listed_if_said slots address number value e = search (rules, cases_lt, get_or_past)

pub stands_if : (slots : List Word) (address number : ℕ) (held : Option ℕ)
    → meaning slots address ≡ held → said_at slots (Some number) address ≡ says_value held
    → Stands slots address number
stands_if slots address number None is e = absurd (cc e)
stands_if slots address number (Some value) is e = search (rules, listed_if_said)

pub nothing_if : (slots : List Word) (address : ℕ) (held : Option ℕ)
    → said_at slots None address ≡ says_value held → held ≡ None
nothing_if _ _ None _ = refl
nothing_if slots address (Some value) e = absurd (cc e)

module _ (slots : List Word) (index : Map) (indexes : IsIndex slots index) where
  pub stands : (address number : ℕ) → index address ≡ Some number → Stands slots address number
  stands address number e = search (rules, stands_if)

  pub has_none : (address : ℕ) → index address ≡ None → meaning slots address ≡ None
  has_none address e = search rules

  pub next_some : (above address number value : ℕ) → IsNextLive index above (Some (address, number))
      → ((named said : ℕ) → says (get_or slots number Erased) named ≡ Some (Some said)
      → value ≡ said)
      → IsNextLive (meaning slots) above (Some (address, value))
  next_some above address number value next is = search (rules, has_none, stands)
