-- An index that follows a change is one of the slots behind it.
use Rattle.std.proofs.Common.{◌≡◌, ℕ, ◌+◌, ◌<◌, Bool, List, [], arith, get_or, length, subst, sym, rules}
use Rattle.std.specs.Bool.{if◌then◌else◌}
use Rattle.ee_flash.specs.Device.{Device}
use Rattle.ee_flash.specs.declared.word.Word.TheVariants.{Erased}
use Rattle.ee_flash.specs.Size.{slot_count}
use Rattle.ee_pages.specs.Layout.{IsLayout}
use Rattle.ee_pages.specs.Meaning.{Map}
use Rattle.ee_pages.specs.Sets.{other, set_of, slots_of}
use Rattle.ee_pages.specs.declared.find.Layout.{Layout}
use Rattle.ee_pages.specs.declared.side.Side.{Side}
use Rattle.ee_core.specs.Appending.{ChangeWritten}
use Rattle.ee_core.specs.CallSteps.{map_change, map_in, number_written}
use Rattle.ee_core.specs.Lookups.{slots_by}
use Rattle.ee_core.specs.Picture.{moved_words}
use Rattle.ee_core.specs.Puts.{AreApart, changes_of_puts}
use Rattle.ee_core.specs.Transfers.{SetMoved}
use Rattle.ee_core.specs.declared.change.Change as declared
use Rattle.ee_core.specs.declared.change.Put as listed
use Rattle.ee_core.proofs.Public.{few_slots}
use Rattle.ee_index.specs.Entries.{AreInOrder}
use Rattle.ee_index.specs.Index.{IsIndex, IsIndexBesideHidden, IsNumberedAfter, IsReadyFor, IsRoomFor, slot_for, without_forgotten}
use Rattle.ee_index.proofs.IndexedAppends.{appended_index, follows_change, other_slots, says_spelled, slot_filled, slot_was_free}
use Rattle.ee_index.proofs.IndexedMoves.{few_numbered, filled_slot, held_proper, moved_index}
use Rattle.ee_index.proofs.Indexing.{slot_within, used_within}

module _ (old new : Device) (layout moved : Layout) (puts : List listed.Put) (forgets : Bool)
    (held : List (ℕ × ℕ))
    (each : AreApart (changes_of_puts puts forgets))
    (room : IsRoomFor (slots_by layout old) (if forgets then [] else puts)
    (slot_for held)) where
  pub gone_over : IsIndexBesideHidden (slots_by layout old) (slot_for held)
  gone_over = search (rules, held_proper)

  module _
      (done : SetMoved old new layout moved (changes_of_puts puts forgets)
      (moved_words (changes_of_puts puts forgets) (map_in layout.side old))) where
    pub numbers_few : AreInOrder held → length (if forgets then [] else puts) + length held < 65536
    numbers_few ordered =
        few_numbered (slots_by layout old) puts forgets held each room ordered moved.fill
        done.as_many
        (omega
        (arith, used_within new moved done.layout_is, few_slots new done.layout_is.live.formed))

    pub index_followed : (followed : List (ℕ × ℕ)) → IsNumberedAfter puts forgets held followed
        → IsIndex (slots_by moved new) (slot_for followed)
    index_followed followed numbered =
        let after = slots_of (set_of (other layout.side) new) in
        let words = moved_words (changes_of_puts puts forgets) (map_in layout.side old) in
        let there : (place : ℕ) → place < length words
        → get_or after place Erased ≡ get_or words place Erased =
        λ place h. filled_slot (other layout.side) new old.size (layout.generation + 1) place words
        done.moved.live.formed done.moved.same_size
        (slot_within new moved done.layout_is place (omega (arith, h, done.as_many)))
        done.new_pages in
        let indexes =
        moved_index (slots_by layout old) puts forgets held each room after numbered.left
        numbered.left_is done.moved.map_is numbered.ordered there in
        search rules

module _ (old new : Device) (layout after : Layout) (change : declared.Change) (held : List (ℕ × ℕ))
    (found : IsLayout old layout) (free : layout.fill < slot_count old.size)
    (ready : IsReadyFor (slots_by layout old) (map_change change) layout.fill (slot_for held))
    (done : ChangeWritten old new layout after change) where
  pub index_appended : (left : Map)
      → ((address : ℕ)
      → left address ≡ without_forgotten (map_change change) (slot_for held) address)
      → IsIndex (slots_by after new) left
  index_appended left left_is =
      let side = layout.side in
      let word = number_written change in
      let formed = done.takes.live.formed in
      let sizes = done.takes.same_size in
      let filled =
      slot_filled side old new layout.generation layout.fill word found.live formed sizes
      found.fill free done.drawn in
      let indexes =
      appended_index (slots_by layout old) (slots_of (set_of side new)) layout.fill ready.0
      (slot_was_free side old new layout.generation layout.fill word found.live formed sizes
      found.fill free done.drawn)
      (other_slots side old new layout.generation layout.fill word found.live formed sizes
      found.fill free done.drawn)
      ready.1 (map_change change) (says_spelled change _ filled done.spells) done.takes.map_is in
      subst (λ (side : Side). IsIndex (slots_of (set_of side new)) left) (sym done.same_set)
      (follows_change _ (map_change change) layout.fill ready.0 (slot_for held) left ready.2 left_is
      indexes)
