-- What steps in the set that a transfer fills make of it.
use Rattle.ee_pages.specs.declared.state.Mark.TheVariants.{Receive}
use Rattle.ee_pages.specs.Pushing.{slot_step}
use Rattle.std.proofs.Common.{◌≡◌, inl, inr, ℕ, ◌+◌, true, false, List, get_or, refl, sym, subst, ap, ◌∙◌, arith, slice_set, ◌<◌, ◌*◌, ◌-◌, ◌≤◌, None}
use Rattle.std.specs.List.{All}
use Rattle.std.proofs.lemmas.Bool.{cases_lt}
use Rattle.std.proofs.lemmas.Grind.{common_steps}
use Rattle.std.proofs.lemmas.List.{get_or_past}
use Rattle.ee_flash.specs.Device.{Device, IsFormed}
use Rattle.ee_flash.specs.Laws.{IsStep}
use Rattle.ee_flash.specs.Size.{Size, slot_count}
use Rattle.ee_flash.specs.Step.{Program, device_after}
use Rattle.ee_flash.specs.declared.word.Word.{Word}
use Rattle.ee_flash.specs.declared.word.Word.TheVariants.{Erased, Held}
use Rattle.ee_flash.proofs.Public.{step_changes_one_page, step_keeps_formed}
use Rattle.ee_codec.specs.Words.{receive, IsGeneration}
use Rattle.ee_pages.specs.Filling.{IsFilling}
use Rattle.ee_pages.specs.Legal.{fits}
use Rattle.ee_pages.specs.Meaning.{meaning, value_said, Change, SpellsChange, map_after}
use Rattle.ee_pages.specs.Page.{is_blank, is_written, marking}
use Rattle.ee_pages.specs.Sets.{fill_of, first_page, front, page_of_slot, place_of_slot, set_of, slots_of, word_of}
use Rattle.ee_pages.specs.declared.side.Side.{Side}
use Rattle.ee_pages.specs.declared.table.Place.TheVariants.{Receiving}
use Rattle.ee_pages.proofs.BlankWords.{blank_set}
use Rattle.ee_pages.proofs.Front.{none_of}
use Rattle.ee_pages.proofs.HeaderWrites.{IsHeaderWritten, first_or_further, header_written, place_of-receive}
use Rattle.ee_pages.proofs.InTheSet.{IsObeyed, with_word_in}
use Rattle.ee_pages.proofs.LastSaid.{latest_in-erased}
use Rattle.ee_pages.proofs.Passes.{allowed_erased}
use Rattle.ee_pages.proofs.SetPrograms.{was_erased, whole_in_set}
use Rattle.ee_pages.proofs.Slots.{length-slots, page_in_range, slot_at}
use Rattle.ee_pages.proofs.SlotWrites.{IsSlotWritten, change_written, changes}

pub stages_change : (change : Change) (number : ℕ) (old new : Device) (side : Side)
    (generation count : ℕ)
    → IsFilling old side generation count → count < slot_count old.size → SpellsChange number change
    → let step =
    slot_step old.size side count number in IsStep step old new → new ≡ device_after step old
    → IsFilling new side generation (count + 1)
    × (slots_of (set_of side new) ≡ slice_set (slots_of (set_of side old)) count (Held number))
    × ((address : ℕ)
    → meaning (slots_of (set_of side new)) address
    ≡ map_after change (meaning (slots_of (set_of side old))) address)
stages_change change number old new side generation count filling room spells taken done =
    let slots = slots_of (set_of side old) in
    let k = page_of_slot old.size count in
    let at = place_of_slot old.size count in
    let in_range = page_in_range old count room in
    let size = (step_changes_one_page _ old new taken).same_size in
    let put : set_of side new ≡ with_word_in (set_of side old) k at (Held number) =
    whole_in_set side old new k at number in_range taken done in
    let written =
    subst (IsSlotWritten old generation count (Held number) (set_of side old)) (sym put)
    (change_written side old generation taken.formed filling.allowed count filling.fill room
    change number spells) in (
      record {
        formed = step_keeps_formed _ old new taken;
        receives = written.headers 0 0 (omega arith) ∙ filling.receives;
        uncommitted = written.headers 0 1 (omega arith) ∙ filling.uncommitted;
        allowed =
            subst (λ size. IsObeyed size generation (set_of side new)) (sym size) written.obeyed;
        fill = omega (arith, written.one_more, filling.fill);
      },
      written.slots,
      λ address.
          ap value_said (written.latest address) ∙ changes change number slots address spells,
    )

receives-own : (generation : ℕ) → fits generation Receiving (Held (receive generation)) ≡ true
receives-own generation = grind (arith, common_steps)

pub opens_page : (page : ℕ) (old new : Device) (side : Side) (generation count : ℕ)
    → IsGeneration generation → IsFilling old side generation count → page < old.size.pages
    → page * (old.size.words - 4) ≤ count → let step =
    marking (first_page old.size side + page) (Receive generation) in IsStep step old new
    → new ≡ device_after step old
    → IsFilling new side generation count
    × (slots_of (set_of side new) ≡ slots_of (set_of side old))
opens_page page old new side generation count proper filling in_range behind taken done =
    elim (first_or_further page) [
      | inl first ↦
          let erased = was_erased side old new page 0 (receive generation) in_range taken in
          let free : word_of (set_of side old) 0 0 ≡ Erased =
          ap (λ n. word_of (set_of side old) n 0) (sym first) ∙ erased in
          let two : Erased ≡ Held (receive generation) = sym free ∙ filling.receives in
          absurd (cc two)
      | inr further ↦
          let word = Held (receive generation) in
          let size = (step_changes_one_page _ old new taken).same_size in
          let put : set_of side new ≡ with_word_in (set_of side old) page 0 word =
          whole_in_set side old new page 0 (receive generation) in_range taken done in
          let written =
          subst (IsHeaderWritten old generation page 0 word (set_of side old)) (sym put)
          (header_written side old generation taken.formed filling.allowed page 0 word in_range
          (omega arith) (omega (arith, behind, filling.fill))
          (ap (λ place. fits generation place word) (place_of-receive page further)
          ∙ receives-own generation)) in (
            record {
              formed = step_keeps_formed _ old new taken;
              receives = written.elsewhere 0 0 (inl (λ e. absurd (omega arith))) ∙ filling.receives;
              uncommitted =
                  written.elsewhere 0 1 (inl (λ e. absurd (omega arith))) ∙ filling.uncommitted;
              allowed =
                  subst (λ size. IsObeyed size generation (set_of side new)) (sym size)
                  written.obeyed;
              fill = ap fill_of written.slots ∙ filling.fill;
            },
            written.slots,
          )
    ]

-- a set of blank pages obeys the table of any generation
blank_obeyed : (size : Size) (generation : ℕ) (pages : List (List Word))
    → All (λ page. is_blank page ≡ true) pages → IsObeyed size generation pages
blank_obeyed size generation pages blank page at in_range within =
    allowed_erased size generation (front (slots_of pages)) page at (word_of pages page at)
    (ap is_written (blank_set pages page at blank))

blank_slots : (side : Side) (device : Device) → IsFormed device
    → All (λ page. is_blank page ≡ true) (set_of side device) → (slot : ℕ)
    → is_written (get_or (slots_of (set_of side device)) slot Erased) ≡ false
blank_slots side device formed blank slot = elim (cases_lt slot (slot_count device.size)) [
  | inr past ↦ ap is_written
      (get_or_past (slots_of (set_of side device)) slot Erased
      (omega (arith, length-slots side device formed)))
  | inl within ↦ ap is_written
      (slot_at side device slot formed within
      ∙ blank_set (set_of side device) (page_of_slot device.size slot)
      (place_of_slot device.size slot) blank)
]

pub opens_set : (old new : Device) (side : Side) (generation : ℕ) → IsGeneration generation
    → All (λ page. is_blank page ≡ true) (set_of side old) → let step =
    marking (first_page old.size side) (Receive generation) in IsStep step old new
    → new ≡ device_after step old
    → IsFilling new side generation 0
    × ((address : ℕ) → meaning (slots_of (set_of side new)) address ≡ None)
opens_set old new side generation proper blank taken done =
    let word = Held (receive generation) in
    let size = (step_changes_one_page _ old new taken).same_size in
    let some = taken.formed.within_limits.some_pages in
    let from : first_page old.size side ≡ first_page old.size side + 0 = omega arith in
    let moved : IsStep (Program (first_page old.size side + 0) 0 (receive generation)) old new =
    subst (λ n. IsStep (Program n 0 (receive generation)) old new) from taken in
    let whole : new
    ≡ device_after (Program (first_page old.size side + 0) 0 (receive generation)) old =
    subst (λ n. new ≡ device_after (Program n 0 (receive generation)) old) from done in
    let put : set_of side new ≡ with_word_in (set_of side old) 0 0 word =
    whole_in_set side old new 0 0 (receive generation) (omega arith) moved whole in
    let written = subst (IsHeaderWritten old generation 0 0 word (set_of side old)) (sym put)
    (header_written side old generation taken.formed
    (blank_obeyed old.size generation (set_of side old) blank) 0 0 word (omega arith)
    (omega arith) (omega arith) refl) in
    let free = blank_slots side old taken.formed blank in (
      record {
        formed = step_keeps_formed _ old new taken;
        receives = written.there;
        uncommitted =
            written.elsewhere 0 1 (inr (λ e. absurd (omega arith)))
            ∙ blank_set (set_of side old) 0 1 blank;
        allowed =
            subst (λ size. IsObeyed size generation (set_of side new)) (sym size) written.obeyed;
        fill = omega (
          arith,
          ap fill_of written.slots,
          none_of is_written Erased (slots_of (set_of side old)) free,
        );
      },
      λ address. ap (λ slots. meaning slots address) written.slots
          ∙ ap value_said (latest_in-erased (slots_of (set_of side old)) address free),
    )
