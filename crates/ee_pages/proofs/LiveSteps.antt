-- What a step in the live set leaves.
use Rattle.ee_pages.specs.Page.{marking}
use Rattle.ee_pages.specs.declared.state.Mark.{Mark}
use Rattle.ee_flash.specs.Size.{slot_count}
use Rattle.std.proofs.Common.{rules, ◌≡◌, ◌≢◌, ◌⊎◌, inl, inr, ℕ, ◌+◌, ◌-◌, ◌*◌, ◌<◌, ◌≤◌, true, Some, None, List, set, refl, sym, subst, ap, ◌∙◌, arith, slice_set}
use Rattle.ee_flash.specs.Device.{Device, IsFormed}
use Rattle.ee_flash.specs.Laws.{IsStep}
use Rattle.ee_flash.specs.Step.{Program, device_after}
use Rattle.ee_flash.specs.declared.word.Word.{Word}
use Rattle.ee_flash.specs.declared.word.Word.TheVariants.{Erased, Held, Torn}
use Rattle.ee_flash.proofs.Public.{step_changes_one_page, step_keeps_formed}
use Rattle.ee_pages.specs.Laws.{KeepsLiveSet}
use Rattle.ee_codec.specs.Words.{mark_number}
use Rattle.ee_pages.specs.Legal.{IsLive, fits, place_of}
use Rattle.ee_pages.specs.Meaning.{Map, map_after, meaning, value_said, Change, SpellsChange}
use Rattle.ee_pages.specs.Pushing.{TakesSlot, slot_step, IsMarkBehind}
use Rattle.ee_pages.specs.Sets.{committed_generation, fill_of, first_page, greater_set, live_of, other, page_of_slot, place_of_slot, set_of, slots_of, word_of}
use Rattle.ee_pages.specs.declared.side.Side.{Side}
use Rattle.ee_pages.specs.declared.side.Side.TheVariants.{First, Second}
use Rattle.ee_pages.specs.declared.state.Mark.TheVariants as marks
use Rattle.ee_pages.specs.declared.table.Place.TheVariants.{Marking}
use Rattle.ee_pages.proofs.HeaderWrites.{IsHeaderWritten, first_or_further, header_written, place_of-active}
use Rattle.ee_pages.proofs.InTheSet.{IsObeyed, with_word_in}
use Rattle.ee_pages.proofs.OtherSet.{greater_first, greater_second}
use Rattle.ee_pages.proofs.SetPrograms.{other_in_set, program_in_set, same_live, was_erased, whole_in_set}
use Rattle.ee_pages.proofs.Slots.{page_in_range}
use Rattle.ee_pages.proofs.SlotWrites.{IsSlotWritten, change_written, changes, torn_written}

same_commit : (old new : List (List Word)) → word_of new 0 0 ≡ word_of old 0 0
    → word_of new 0 1 ≡ word_of old 0 1 → committed_generation new ≡ committed_generation old
same_commit old new receive mark = rw (receive, mark) refl

module _ (side : Side) (old new : Device) (generation : ℕ) (live : IsLive old side generation)
    (formed : IsFormed new) (sizes : new.size ≡ old.size)
    (apart : set_of (other side) new ≡ set_of (other side) old) where
  -- the set is live still, if its first page commits it as before and the table is obeyed
  live_after : committed_generation (set_of side new) ≡ committed_generation (set_of side old)
      → IsObeyed old.size generation (set_of side new) → IsLive new side generation
  live_after commit obeyed = search (rules, same_live, IsObeyed)

  -- and then it is as it was, if its slots are
  keeps : committed_generation (set_of side new) ≡ committed_generation (set_of side old)
      → IsObeyed old.size generation (set_of side new)
      → slots_of (set_of side new) ≡ slots_of (set_of side old)
      → KeepsLiveSet old new side generation
  keeps commit obeyed same = search (rules, live_after)

  keeps_same : set_of side new ≡ set_of side old → KeepsLiveSet old new side generation
  keeps_same same =
      keeps (ap committed_generation same)
      (subst (IsObeyed old.size generation) (sym same) live.allowed) (ap slots_of same)

  takes : (slot : ℕ) (word : Word) (map : Map)
      → IsSlotWritten old generation slot word (set_of side old) (set_of side new)
      → ((address : ℕ) → meaning (slots_of (set_of side new)) address ≡ map address)
      → TakesSlot old new side generation map
  takes slot word map written means = search (rules, live_after, same_commit)

pub whole_push_takes : (change : Change) (number : ℕ) (old new : Device) (side : Side)
    (generation : ℕ)
    → IsLive old side generation → let slots =
    slots_of (set_of side old) in fill_of slots < slot_count old.size → SpellsChange number change
    → let step =
    slot_step old.size side (fill_of slots) number in IsStep step old new
    → new ≡ device_after step old
    → TakesSlot old new side generation (map_after change (meaning slots))
    × (slots_of (set_of side new) ≡ slice_set slots (fill_of slots) (Held number))
whole_push_takes change number old new side generation live room spells taken done =
    let slots = slots_of (set_of side old) in
    let slot = fill_of slots in
    let k = page_of_slot old.size slot in
    let at = place_of_slot old.size slot in
    let in_range = page_in_range old slot room in
    let put : set_of side new ≡ with_word_in (set_of side old) k at (Held number) =
    whole_in_set side old new k at number in_range taken done in
    let written =
    subst (IsSlotWritten old generation slot (Held number) (set_of side old)) (sym put)
    (change_written side old generation taken.formed live.allowed slot refl room change
    number spells) in (
      takes side old new generation live (step_keeps_formed _ old new taken)
          (step_changes_one_page _ old new taken).same_size
          (other_in_set side old new k at number in_range taken) slot (Held number)
          (map_after change (meaning slots)) written
          (λ address.
          ap value_said (written.latest address) ∙ changes change number slots address spells),
      let put_there : slots_of (set_of side new) ≡ set slots slot (Held number) =
          written.slots in search put_there,
    )

pub push_takes : (change : Change) (number : ℕ) (old new : Device) (side : Side) (generation : ℕ)
    → IsLive old side generation → let slots =
    slots_of (set_of side old) in fill_of slots < slot_count old.size → SpellsChange number change
    → IsStep (slot_step old.size side (fill_of slots) number) old new
    → (set_of (other side) new ≡ set_of (other side) old)
    × (KeepsLiveSet old new side generation ⊎ TakesSlot old new side generation (meaning slots)
    ⊎ TakesSlot old new side generation (map_after change (meaning slots)))
push_takes change number old new side generation live room spells taken =
    let slots = slots_of (set_of side old) in
    let slot = fill_of slots in
    let k = page_of_slot old.size slot in
    let at = place_of_slot old.size slot in
    let in_range = page_in_range old slot room in
    let formed = step_keeps_formed _ old new taken in
    let size = (step_changes_one_page _ old new taken).same_size in
    let apart = other_in_set side old new k at number in_range taken in (
      apart,
      elim (program_in_set side old new k at number in_range taken) [
        | inl same ↦ inl (keeps_same side old new generation live formed size apart same)
        | inr (inl held) ↦
            let written =
            subst (IsSlotWritten old generation slot (Held number) (set_of side old)) (sym held)
            (change_written side old generation taken.formed live.allowed slot refl room
            change number spells) in
            inr (inr (takes side old new generation live formed size apart slot (Held number)
            (map_after change (meaning slots)) written
            (λ address. ap value_said (written.latest address)
            ∙ changes change number slots address spells)))
        | inr (inr torn) ↦
            let written =
            subst (IsSlotWritten old generation slot Torn (set_of side old)) (sym torn)
            (torn_written side old generation taken.formed live.allowed slot refl room) in
            inr (inl (takes side old new generation live formed size apart slot Torn _ written
            (λ address. let as_before : meaning (slots_of (set_of side new)) address
            ≡ meaning slots address =
            ap value_said (written.latest address) in
            search as_before)))
      ],
    )

-- a set that is live has the mark that commits it
no_commit : (side : Side) (device : Device) (generation : ℕ)
    → live_of device ≡ Some (side, generation) → committed_generation (set_of side device) ≡ None
    → ⊥
no_commit First device generation live none =
    let first =
    greater_first (committed_generation (set_of First device))
    (committed_generation (set_of Second device)) generation live in
    let gone : greater_set None None ≡ Some (First, generation) =
    subst (λ commit. greater_set commit None ≡ Some (First, generation)) none first in
    cc gone
no_commit Second device generation live none =
    let second =
    greater_second (committed_generation (set_of First device))
    (committed_generation (set_of Second device)) generation live in
    let gone : greater_set None None ≡ Some (Second, generation) =
    subst (λ commit. greater_set None commit ≡ Some (Second, generation)) none second in
    cc gone

marked : (side : Side) (device : Device) (generation : ℕ) → IsLive device side generation
    → word_of (set_of side device) 0 1 ≢ Erased
marked side device generation live none = no_commit side device generation live.live (rw none refl)

-- a mark's word, not one of the two that commit the set
mark_at : (at k : ℕ) (old new : Device) (side : Side) (generation : ℕ) → IsLive old side generation
    → k < old.size.pages → k * (old.size.words - 4) ≤ fill_of (slots_of (set_of side old)) → at < 4
    → 0 ≢ at → (0 ≢ k) ⊎ (1 ≢ at) → place_of k at ≡ Marking
    → IsStep (Program (first_page old.size side + k) at mark_number) old new
    → KeepsLiveSet old new side generation × (set_of (other side) new ≡ set_of (other side) old)
mark_at at k old new side generation live in_range behind header not_receive not_active place taken
    =
    let formed = step_keeps_formed _ old new taken in
    let size = (step_changes_one_page _ old new taken).same_size in
    let apart = other_in_set side old new k at mark_number in_range taken in
    let written =
    λ (word : Word) (fit : fits generation Marking word ≡ true) (put : set_of side new
    ≡ with_word_in (set_of side old) k at word).
    subst (IsHeaderWritten old generation k at word (set_of side old)) (sym put)
    (header_written side old generation taken.formed live.allowed k at word in_range header behind
    (ap (λ place. fits generation place word) place ∙ fit)) in
    let kept =
    λ (word : Word) (left : IsHeaderWritten old generation k at word (set_of side old)
    (set_of side new)).
    keeps side old new generation live formed size apart
    (same_commit (set_of side old) (set_of side new) (left.elsewhere 0 0 (inr not_receive))
    (left.elsewhere 0 1 not_active)) left.obeyed left.slots in (
      elim (program_in_set side old new k at mark_number in_range taken) [
        | inl same ↦ keeps_same side old new generation live formed size apart same
        | inr (inl held) ↦ kept (Held mark_number) (written (Held mark_number) refl held)
        | inr (inr torn) ↦ kept Torn (written Torn refl torn)
      ],
      apart,
    )

pub mark_keeps_live : (page : ℕ) (mark : Mark) (old new : Device) (side : Side) (generation : ℕ)
    → IsLive old side generation → IsMarkBehind old side page mark
    → IsStep (marking (first_page old.size side + page) mark) old new
    → KeepsLiveSet old new side generation × (set_of (other side) new ≡ set_of (other side) old)
mark_keeps_live page (marks.Receive given) old new side generation live behind taken =
    elim behind.active_or_valid [
      | inl active ↦ cc active
      | inr valid ↦ cc valid
    ]
mark_keeps_live page marks.Active old new side generation live behind taken =
    elim (first_or_further page) [
      | inl first ↦ absurd
          (marked side old generation live
          (ap (λ n. word_of (set_of side old) n 1) (sym first)
          ∙ was_erased side old new page 1 mark_number behind.in_range taken))
      | inr further ↦ mark_at 1 page old new side generation live behind.in_range
          (omega (arith, behind.behind)) (omega arith) (λ e. absurd (omega arith))
          (inl (λ e. absurd (omega arith))) (place_of-active page further) taken
    ]
mark_keeps_live page marks.Valid old new side generation live behind taken =
    mark_at 2 page old new side generation live behind.in_range (omega (arith, behind.behind))
    (omega arith) (λ e. absurd (omega arith)) (inr (λ e. absurd (omega arith))) refl taken
mark_keeps_live page marks.Erasing old new side generation live behind taken =
    elim behind.active_or_valid [
      | inl active ↦ cc active
      | inr valid ↦ cc valid
    ]
