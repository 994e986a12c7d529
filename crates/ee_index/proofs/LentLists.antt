-- A list that stands first in a longer one: what stays of it where an entry is set, put in
-- or taken out there.
use Rattle.std.proofs.lemmas.Grind.{common_steps}
use Rattle.std.proofs.Common.{◌≡◌, ◌∙◌, ◌<◌, ◌≤◌, ◌+◌, ◌-◌, ℕ, suc, List, ◌++◌, ap, arith, drop, length, set, sym, take, rules}
use Rattle.std.specs.List.{insert, remove}
use Rattle.std.proofs.Math.Seq.{paste, take-set-lt}
use Rattle.std.proofs.lemmas.List.{drop-append-le, drop-take, drop_all, length-append, length-drop, length-set, length-take-le, set_split, take-append-le, take-take, take_all}
use Rattle.std.proofs.lemmas.List.Edits.{take-paste}
use Rattle.std.proofs.lemmas.Map.Entries.{length-keys_of}
use Rattle.ee_pages.specs.Meaning.{Put, map_after}
use Rattle.ee_core.specs.declared.change.Put as listed
use Rattle.ee_index.specs.Entries.{AreInOrder, StandsAt}
use Rattle.ee_index.specs.Index.{numbered_slots, slot_for}
use Rattle.ee_index.proofs.InOrder.{ordered_set, slots_set}
use Rattle.ee_index.proofs.Numbering.{keys_numbered}

-- ---- the first so many

module _ {X : Type 0} (room : List X) (place n count : ℕ) where
  -- those behind a place move up by one, and an item is set there
  pub put_in : (item : X) → count ≡ place + n → count < length room
      → take (count + 1) (set (paste room (place + 1) (drop place room) n) place item)
      ≡ insert (take count room) place item
  put_in item split within =
      let moved = paste room (place + 1) (drop place room) n in
      let low = take (place + 1) room in
      let high = take n (drop place room) in
      let behind = length-drop place room in
      let as_low = length-take-le (place + 1) room (omega arith) in
      let both = length-append low high in
      let first : take (count + 1) moved ≡ low ++ high = grind (arith, common_steps) in
      let below : take place (low ++ high) ≡ take place (take count room) =
      grind (arith, common_steps) in
      let above : drop (suc place) (low ++ high) ≡ drop place (take count room) =
      search (rules, drop-append-le, drop_all, drop-take) in
      search (rules, take-set-lt, set, set_split)

  -- those behind a place move down by one
  pub taken_out : count ≡ place + 1 + n → count ≤ length room
      → take (count - 1) (paste room place (drop (place + 1) room) n)
      ≡ remove (take count room) place
  taken_out split within =
      let moved = paste room place (drop (place + 1) room) n in
      let behind = length-drop (place + 1) room in
      let next : place + 1 ≡ suc place = omega arith in
      ap (λ many. take many moved) (omega arith)
      ∙ take-paste room place (drop (place + 1) room) n (omega arith) (omega arith)
      ∙ ap (λ items. items ++ take n (drop (place + 1) room))
      (sym (take-take place count room (omega arith)))
      ∙ ap (λ items. take place (take count room) ++ items)
      (sym (drop-take (place + 1) n room)
      ∙ ap (λ many. drop (place + 1) (take many room)) (sym split)
      ∙ ap (λ many. drop many (take count room)) next)

-- ---- entries that stand first in a room

module _ (address slot : ℕ) (room : List (ℕ × ℕ)) (count place : ℕ) (fits : count ≤ length room)
    (here : StandsAt (take count room) address place) where
  set_first : take count (set room place (address, slot))
      ≡ set (take count room) place (address, slot)
  set_first = search (rules, take-set-lt, length-take-le)

  pub first_ordered : AreInOrder (take count room)
      → (count ≤ length (set room place (address, slot)))
      × AreInOrder (take count (set room place (address, slot)))
  first_ordered ordered = search (rules, length-set, set_first, ordered_set)

  pub first_slots : (named : ℕ)
      → slot_for (take count (set room place (address, slot))) named
      ≡ map_after (Put address slot) (slot_for (take count room)) named
  first_slots named = search (rules, set_first, slots_set)

-- the entries of a room are numbered in place
pub first_numbered : (puts : List listed.Put) (room new : List (ℕ × ℕ)) (count : ℕ)
    → count ≤ length room → new ≡ numbered_slots puts (length puts) (take count room)
    → AreInOrder (take count room)
    → (count ≤ length (new ++ drop count room))
    × (take count (new ++ drop count room)
    ≡ numbered_slots puts (length puts) (take count room))
    × AreInOrder (take count (new ++ drop count room))
first_numbered puts room new count fits numbered ordered = search (
  rules,
  keys_numbered,
  length-keys_of,
  length-take-le,
  take-append-le,
  take_all,
  length-append,
)
