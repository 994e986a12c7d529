-- What programming a change into the first free slot of the live set leaves.
use Rattle.ee_core.proofs.Words.{rules, ◌≡◌, ◌≢◌, ◌⊎◌, inl, inr, ℕ, ◌+◌, ◌<◌, get_or, sym, ap, ◌∙◌, arith}
use Rattle.ee_core.proofs.Sets.{Device, IsOn, all_ones, word_at, CanTake, IsStep, slot_count, Step, Program, IsCutIn, IsUntouched, MayFollow, device_after, Erased, step_leaves_pages, KeepsLiveSet, IsLayout, Layout, IsLive, Change, Map, SpellsChange, map_after, TakesSlot, slot_step, fill_of, first_page, other, page_of_slot, place_of_slot, set_of, slots_of, Side, erased_word, fill-front, slots_behind, step_keeps_other_pages, page_in_range, place_in_range, slot_at, push_takes, whole_push_takes, programmed_word}
use Rattle.ee_core.proofs.Calls.{IsSameSet, KeepsMarks, map_change, map_in, number_written}
use Rattle.ee_core.proofs.Cuts.{program_partly}
use Rattle.ee_core.specs.Appending.{MayTakeSlot, Pushed, PushedPartly}
use Rattle.ee_core.specs.declared.change.Change as declared
use Rattle.ee_core.proofs.MovingFacts.{keeps_both}
use Rattle.ee_core.proofs.SetPages.{page_in_device, page_of_set}
use Rattle.ee_core.proofs.Drawings.{put_there}
use Rattle.ee_core.proofs.Marks.{place_below, program_keeps_wear}

program_keeps_words : (page at value : ℕ) (old new : Device)
    → IsStep (Program page at value) old new → (there k : ℕ) → k ≢ at
    → word_at new there k ≡ word_at old there k
program_keeps_words page at value old new taken _ k other =
    search (rules, step_keeps_other_pages, taken, programmed_word, step_leaves_pages)

-- so a program behind the header keeps all marks
slot_keeps_marks : (page place value : ℕ) (old new : Device)
    → IsStep (Program page (4 + place) value) old new → KeepsMarks old new
slot_keeps_marks _ _ _ _ new taken there mark was = search (rules, place_below, program_keeps_words)

-- the first free slot is erased
pub slot_erased : (side : Side) (generation fill : ℕ) (old : Device) → IsLive old side generation
    → fill ≡ fill_of (slots_of (set_of side old)) → fill < slot_count old.size
    → word_at old (first_page old.size side + page_of_slot old.size fill)
    (place_of_slot old.size fill)
    ≡ Erased
slot_erased side _ fill old live fill_is free =
    let slots = slots_of (set_of side old) in
    let front = fill-front _ _ _ live.formed live.allowed in
    ap (λ words. get_or words (place_of_slot old.size fill) Erased)
    (sym (page_of_set _ _ _ (page_in_range old _ free)))
    ∙ sym (slot_at _ _ _ live.formed free)
    ∙ erased_word _ (slots_behind _ _ _ live.formed live.allowed _ (omega arith))

-- a change in it
module _ (old new : Device) (layout : Layout) (found : IsLayout old layout)
    (free : layout.fill < slot_count old.size) (change : declared.Change)
    (spells : SpellsChange (number_written change) (map_change change))
    (below : number_written change < all_ones) where
  abbrev step : ℕ → Step
  step slot = slot_step old.size layout.side slot (number_written change)

  can_take : CanTake (step layout.fill) old
  can_take = search (page_in_device, page_in_range, place_in_range, slot_erased)

  taken : MayFollow (step layout.fill) old new → IsStep (step layout.fill) old new
  taken follows = search can_take

  at_fill : MayFollow (step layout.fill) old new
      → IsStep (step (fill_of (slots_of (set_of layout.side old)))) old new
  at_fill follows = search (rules, taken)

  free_there : fill_of (slots_of (set_of layout.side old)) < slot_count old.size
  free_there = omega arith

  outcome : MayFollow (step layout.fill) old new
      → IsSameSet (other layout.side) old new
      × MayTakeSlot old new layout.side layout.generation (map_change change)
  outcome follows = push_takes _ _ _ _ _ _ found.live free_there spells (at_fill follows)

  keeps_marks : MayFollow (step layout.fill) old new → KeepsMarks old new
  keeps_marks follows = search (slot_keeps_marks, taken)

  pub pushed : IsOn old → new ≡ device_after (step layout.fill) old → Pushed old new layout change
  pushed on done =
      let whole = inl (record { was_on = on; done = done }) in
      record {
        takes = (whole_push_takes _ _ _ _ _ _ found.live free_there spells (at_fill whole)
            (done ∙ ap (λ n. device_after (step n) old) found.fill)).0;
        spells = spells;
        puts = search (rules, put_there, can_take);
        marks = keeps_marks whole;
        other = (outcome whole).0;
        wear = ap (λ device. device.wear) done;
      }

  pub pushed_partly : IsCutIn (step layout.fill) old new ⊎ IsUntouched old new
      → PushedPartly old new layout change
  pushed_partly cut = record {
    cut = (outcome (inr cut)).1;
    begun = search (rules, program_partly, can_take);
    marks = keeps_marks (inr cut);
    other = (outcome (inr cut)).0;
    wear = program_keeps_wear _ _ _ _ _ (inr cut);
  }

-- a change behind what keeps the live set
pub taken_after : (old mid new : Device) (side : Side) (generation : ℕ) (now map : Map)
    → KeepsLiveSet old mid side generation → now ≡ map → TakesSlot mid new side generation now
    → TakesSlot old new side generation map
taken_after _ _ _ _ _ _ _ keeps same takes = search rules

-- or behind that, where power was cut
pub cut_after : (old mid new : Device) (side : Side) (generation : ℕ) (change : Change)
    → KeepsLiveSet old mid side generation → map_in side mid ≡ map_in side old
    → MayTakeSlot mid new side generation change → MayTakeSlot old new side generation change
cut_after _ _ _ _ _ _ keeps _ (inl kept) = inl (keeps_both _ _ _ _ _ keeps kept)
cut_after old mid new side generation _ keeps same (inr (inl torn)) =
    inr
    (inl
    (taken_after old mid new side generation (map_in side mid) (map_in side old) keeps same
    torn))
cut_after old mid new side generation change keeps same (inr (inr whole)) =
    inr
    (inr
    (taken_after old mid new side generation (map_after change (map_in side mid))
    (map_after change (map_in side old)) keeps (ap (map_after change) same) whole))

pub cut_size : {mid new : Device} {side : Side} {generation : ℕ} (change : Change)
    → MayTakeSlot mid new side generation change → new.size ≡ mid.size
cut_size _ (inl keeps) = keeps.same_size
cut_size _ (inr (inl torn)) = torn.same_size
cut_size _ (inr (inr whole)) = whole.same_size
