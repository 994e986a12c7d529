-- A change, or a torn word, in the first free slot of a set.
use Rattle.std.proofs.Common.{◌≡◌, inr, ℕ, ◌+◌, ◌-◌, ◌<◌, ◌≤◌, ◌/◌, ◌%◌, ◌==◌, Bool, true, false, cond, Option, Some, None, List, [], length, get_or, set, refl, sym, subst, ap, ◌∙◌, arith}
use Rattle.std.proofs.lemmas.Grind.{common_steps}
use Rattle.std.proofs.lemmas.List.Elements.{All-get_or}
use Rattle.ee_flash.specs.Device.{Device, IsFormed}
use Rattle.ee_flash.specs.Size.{slot_count}
use Rattle.ee_flash.specs.declared.word.Word.{Word}
use Rattle.ee_flash.specs.declared.word.Word.TheVariants.{Erased, Held, Torn}
use Rattle.ee_codec.specs.Reading.{slot_of}
use Rattle.ee_codec.proofs.Public.{slot_of-element, slot_of-forgetting}
use Rattle.ee_pages.specs.Legal.{fits, is_element, place_of}
use Rattle.ee_pages.specs.Meaning.{Change, Put, Forget, SpellsChange, map_after, later_of, latest_in, meaning, says, slot_says, value_said}
use Rattle.ee_pages.specs.Page.{is_written}
use Rattle.ee_pages.specs.Sets.{fill_of, front, page_of_slot, place_of_slot, set_of, slots_of, word_of}
use Rattle.ee_pages.specs.declared.side.Side.{Side}
use Rattle.ee_pages.specs.declared.table.Place.TheVariants.{InSlot}
use Rattle.ee_pages.proofs.InTheSet.{IsObeyed, filter-set, latest_in-set, prefix_len-set, slots-slot, still_obeyed, with_word_in, word-elsewhere, word-there}
use Rattle.ee_pages.proofs.Legal.{fill-front, slots_before_slot, slots_behind}
use Rattle.ee_pages.proofs.Slots.{length-set_of, length-slots, page_in_range, pages-set_of, place_in_range, split_by}

place_of-slot : (page at : ℕ) → 3 < at → place_of page at ≡ InSlot
place_of-slot page at h = grind (arith, common_steps)

-- what a set is after a word was put into the slot of this number
pub record IsSlotWritten (device : Device) (generation slot : ℕ) (word : Word)
    (old new : List (List Word)) : Type 0 where
  pub slots : slots_of new ≡ set (slots_of old) slot word
  pub obeyed : IsObeyed device.size generation new
  pub one_more : fill_of (slots_of new) ≡ fill_of (slots_of old) + 1
  pub headers : (page place : ℕ) → place < 4 → word_of new page place ≡ word_of old page place
  pub latest : (address : ℕ)
      → latest_in (slots_of new) address
      ≡ later_of (latest_in (slots_of old) address) (says word address)

module _ (side : Side) (device : Device) (generation : ℕ) (formed : IsFormed device)
    (obeyed : IsObeyed device.size generation (set_of side device)) where
  -- a word that is written and fits, put into the first free slot
  pub slot_written : (slot : ℕ) (word : Word) → fill_of (slots_of (set_of side device)) ≡ slot
      → slot < slot_count device.size → is_written word ≡ true → fits generation InSlot word ≡ true
      → IsSlotWritten device generation slot word (set_of side device)
      (with_word_in (set_of side device) (page_of_slot device.size slot)
      (place_of_slot device.size slot) word)
  slot_written slot word filled room written fit =
      let pages = set_of side device in
      let k = slot / (device.size.words - 4) in
      let j = slot % (device.size.words - 4) in
      let some : 0 < device.size.words - 4 = omega (arith, formed.within_limits.some_words) in
      let within : j < device.size.words - 4 = omega (arith, some) in
      let count = length-set_of side device formed in
      let below = page_in_range device slot room in
      let in_range : k < length pages = subst (λ n. k < n) (sym count) below in
      let long =
      All-get_or (λ page. length page ≡ device.size.words) pages k [] in_range
      (pages-set_of side device formed) in
      let inside : 4 + j < length (get_or pages k []) =
      subst (λ n. 4 + j < n) (sym long) (place_in_range device slot formed) in
      let slots =
      slots-slot device.size.words pages k j slot word (pages-set_of side device formed)
      in_range within (split_by slot (device.size.words - 4)) in
      let first : front (slots_of pages) ≡ slot =
      fill-front side device generation formed obeyed ∙ filled in
      let behind = slots_behind side device generation formed obeyed in
      let free = behind slot (omega arith) in
      let there : slot < length (slots_of pages) =
      subst (λ n. slot < n) (sym (length-slots side device formed)) room in
      let grows : front (slots_of pages) ≤ front (slots_of (with_word_in pages k (4 + j) word)) =
      subst (λ slots. front (slots_of pages) ≤ front slots) (sym slots)
      (prefix_len-set is_written word written (slots_of pages) slot) in
      record {
        slots = slots;
        obeyed =
            still_obeyed device.size generation k (4 + j) pages (with_word_in pages k (4 + j) word)
            obeyed grows
            (λ page place apart. word-elsewhere pages k (4 + j) word page place in_range apart)
            (ap (fits generation (place_of k (4 + j)))
            (word-there pages k (4 + j) word in_range inside)
            ∙ ap (λ place. fits generation place word) (place_of-slot k (4 + j) (omega arith))
            ∙ fit)
            (subst (λ n. n ≤ front (slots_of (with_word_in pages k (4 + j) word)))
            (sym (slots_before_slot device slot)) (omega arith));
        one_more =
            ap fill_of slots
            ∙ filter-set is_written word written (slots_of pages) slot Erased there free;
        headers =
            λ page place header. word-elsewhere pages k (4 + j) word page place in_range
            (inr (λ e. absurd (omega arith)));
        latest =
            λ address. ap (λ (words : List Word). latest_in words address) slots
            ∙ latest_in-set (slots_of pages) slot word address there
            (λ n low. behind n (omega arith));
      }

-- what the word of a change says, and that it is an element or a forgetting
spelled : (change : Change) (number : ℕ) → SpellsChange number change
    → is_element (slot_of (Held number)) ≡ true
spelled (Put address value) number spells =
    ap (λ n. is_element (slot_of (Held n))) spells.2
    ∙ ap is_element (slot_of-element address value spells.0 spells.1)
spelled (Forget address) number spells =
    ap (λ n. is_element (slot_of (Held n))) spells.3
    ∙ ap is_element (slot_of-forgetting address spells.0 spells.1 spells.2)

said_after : (here : Bool) (new : Option ℕ) (old : Option (Option ℕ))
    → value_said (later_of old (cond here (Some new) None)) ≡ cond here new (value_said old)
said_after true new old = refl
said_after false new old = refl

pub changes : (change : Change) (number : ℕ) (slots : List Word) (address : ℕ)
    → SpellsChange number change
    → value_said (later_of (latest_in slots address) (says (Held number) address))
    ≡ map_after change (meaning slots) address
changes (Put named value) number slots address spells =
    ap (λ n. value_said (later_of (latest_in slots address) (says (Held n) address))) spells.2
    ∙ ap (λ slot. value_said (later_of (latest_in slots address) (slot_says slot address)))
    (slot_of-element named value spells.0 spells.1)
    ∙ said_after (named == address) (Some value) (latest_in slots address)
changes (Forget named) number slots address spells =
    ap (λ n. value_said (later_of (latest_in slots address) (says (Held n) address))) spells.3
    ∙ ap (λ slot. value_said (later_of (latest_in slots address) (slot_says slot address)))
    (slot_of-forgetting named spells.0 spells.1 spells.2)
    ∙ said_after (named == address) None (latest_in slots address)

module _ (side : Side) (device : Device) (generation : ℕ) (formed : IsFormed device)
    (obeyed : IsObeyed device.size generation (set_of side device)) (slot : ℕ)
    (filled : fill_of (slots_of (set_of side device)) ≡ slot)
    (room : slot < slot_count device.size) where
  pub change_written : (change : Change) (number : ℕ) → SpellsChange number change
      → IsSlotWritten device generation slot (Held number) (set_of side device)
      (with_word_in (set_of side device) (page_of_slot device.size slot)
      (place_of_slot device.size slot) (Held number))
  change_written change number spells =
      slot_written side device generation formed obeyed slot (Held number) filled room refl
      (spelled change number spells)

  pub torn_written : IsSlotWritten device generation slot Torn (set_of side device)
      (with_word_in (set_of side device) (page_of_slot device.size slot)
      (place_of_slot device.size slot) Torn)
  torn_written = slot_written side device generation formed obeyed slot Torn filled room refl refl
