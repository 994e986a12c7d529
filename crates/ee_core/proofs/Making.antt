-- What an append or a transfer makes of a state, and when each is done.
use Rattle.ee_core.proofs.Words.{rules, ◌≡◌, ◌≢◌, ◌⊎◌, inl, inr, ℕ, ◌+◌, ◌-◌, ◌<◌, ◌≤◌, ◌&&◌, Bool, true, false, cond, Option, Some, None, is_some, List, [], ◌∷◌, length, nat_lt, refl, sym, subst, ap, ◌∙◌, arith, Result, Ok, Err, OnErr, OnOk, common_steps, filter}
use Rattle.ee_core.proofs.Sets.{Device, IsFormed, IsOff, IsOn, Ends, GoesOn, IsCut, Word, Erased, Held, Torn, IsAddress, IsGeneration, KeepsLiveSet, IsLive, Change, Map, Put, Forget, changed_by, map_after, live_in, meaning, address_of, TakesSlot, fill_of, first_page, other, pending_of, set_of, slots_of, Side, live_commits, change_counts, full_set_has_no_blank_page, live_within_fill, length-set_of, length-slots}
use Rattle.ee_core.proofs.Calls.{Appends, HaveNoGeneration, IsAccepted, IsCutAppend, IsCutChange, IsCutMaking, IsCutMove, IsFull, Moves, NeedsTransfer, Proceeds, greatest_generation, pages_left, ErasesPartly, IsDrawnPartly, MovesPartly, IsDrawn, filled_set, is_used, moved_words, number_of_change, picture_of, retired_pages, with_change, AreApart, ForgetsHeld, HasMoved, IsSameSet, map_change, number_written, IsMarked, IsStore, Wears, appended_state, capacity, moved_state, not_blank_in, pending_pages, pending_pages_in, torn_state, state_of, used_pages_in}
use Rattle.ee_codec.specs.Reading.{receive_of}
use Rattle.ee_core.specs.Appending.{MayTakeSlot}
use Rattle.ee_core.specs.Changes.{IsSpent}
use Rattle.ee_core.proofs.Sets.{IsLayout, Layout}
use Rattle.ee_core.specs.Shown.{ShowsAppended, ShowsCutAppend, ShowsCutMove, ShowsMoved, is_left}
use Rattle.ee_core.specs.declared.change.Change as declared
use Rattle.ee_core.specs.declared.change.Change.TheVariants as kinds
use Rattle.ee_core.proofs.Drawings.{drawn_as, same_drawn}
use Rattle.ee_core.proofs.MovedSets.{used_where_full}
use Rattle.ee_core.proofs.PublicSteps.{making_appends, making_moves}
use Rattle.ee_core.proofs.Taken.{among_on}
use Rattle.ee_core.specs.StepLists.{steps_in, steps_of_append, steps_of_transfer, steps_to_append}
use Rattle.ee_flash.specs.Step.{Step}
use Rattle.ee_flash.specs.Taking.{Completes, IsCutAmong, StopsAmong}
use Rattle.ee_core.specs.Known.{Knows}
use Rattle.ee_core.specs.declared.known.Known.{Known}
use Rattle.ee_core.proofs.States.{same_states, state_is, state_kept, state_moved}
use Rattle.ee_core.proofs.MovingFacts.{layout_kept}

kept_few : {X : Type 0} (b : Bool) (x : X) (ys xs : List X) → length ys ≤ length xs
    → length (cond b (x ∷ ys) ys) ≤ length (x ∷ xs)
kept_few true x _ _ h = omega arith
kept_few false x _ _ h = omega arith

pub filter_few : {X : Type 0} (p : X → Bool) (xs : List X) → length (filter p xs) ≤ length xs
filter_few p [] = omega arith
filter_few p (x ∷ xs) = kept_few (p x) x (filter p xs) xs (filter_few p xs)

-- no more pages wait than a set has
pub few_pending : (device : Device) (side : Side) → IsFormed device
    → pending_of (set_of side device) ≤ device.size.pages
few_pending device side formed = search (rules, filter_few, length-set_of)

module _ (old new : Device) (side : Side) (generation : ℕ) (live : IsLive old side generation) where
  pub fill_was : (state_of old).fill ≡ fill_of (slots_of (set_of side old))
  fill_was = ap (λ state. state.fill) (state_is _ _ _ live)

  pub map_was : (address : ℕ)
      → (state_of old).map address ≡ meaning (slots_of (set_of side old)) address
  map_was address = ap (λ state. state.map address) (state_is _ _ _ live)

  -- the pages that wait are those of the other set
  pub pending_was : pending_pages old ≡ not_blank_in (other side) old
  pending_was = ap (pending_pages_in old) live.live

  pending_stays : IsLive new side generation → new.size ≡ old.size → IsSameSet (other side) old new
      → pending_pages new ≡ pending_pages old
  pending_stays now sizes same = search pending_was

  pub state_appended : (change : Change)
      → TakesSlot old new side generation (map_after change (meaning (slots_of (set_of side old))))
      → IsSameSet (other side) old new → state_of new ≡ appended_state change (state_of old)
  state_appended _ takes same = search (rules, state_is, same_states)

  state_spoiled : TakesSlot old new side generation (meaning (slots_of (set_of side old)))
      → IsSameSet (other side) old new → state_of new ≡ torn_state (state_of old)
  state_spoiled takes same = search (rules, state_is, same_states)

  state_same : KeepsLiveSet old new side generation → IsSameSet (other side) old new
      → state_of new ≡ state_of old
  state_same keeps same = search (state_is, same_states)

  pub shows_appended : (change : Change) (fill number : ℕ)
      → fill ≡ fill_of (slots_of (set_of side old))
      → number ≡ number_of_change (state_of old).map change → new.size ≡ old.size
      → IsDrawn side new (with_change old.size fill number (picture_of side old))
      → IsSameSet (other side) old new → ShowsAppended old change new side
  shows_appended _ _ number filled spelled sizes drawn same = search (rules, fill_was, same_drawn)

  pub shows_cut_append : (change : Change) (fill number : ℕ)
      → fill ≡ fill_of (slots_of (set_of side old))
      → number ≡ number_of_change (state_of old).map change → new.size ≡ old.size
      → IsDrawnPartly side new (picture_of side old)
      (with_change old.size fill number (picture_of side old))
      → IsSameSet (other side) old new → ShowsCutAppend old change new side
  shows_cut_append _ _ number filled spelled sizes drawn same = search (rules, fill_was, same_drawn)

  -- the slots that one change needs a transfer for are all used
  all_used : (change : Change) → NeedsTransfer (capacity old) (state_of old) (change ∷ [])
      → fill_of (slots_of (set_of side old)) ≡ capacity old
  all_used _ needed = sym fill_was ∙ needed

  -- so each page of the set waits afterwards
  used_are_left : (changes : List Change) (page : ℕ)
      → NeedsTransfer (capacity old) (state_of old) changes → page < old.size.pages
      → is_used side old page ≡ is_left changes side old page
  used_are_left [] _ needed h = absurd needed
  used_are_left (change ∷ []) page needed h =
      used_where_full side old generation page live (all_used change needed) h
  used_are_left (first ∷ _ ∷ _) _ _ h = refl

  pending_left : (changes : List Change) → NeedsTransfer (capacity old) (state_of old) changes
      → pending_of (set_of side old) ≡ pages_left changes old
  pending_left [] needed = absurd needed
  pending_left (change ∷ []) needed = full_set_has_no_blank_page _ _ _ live (all_used change needed)
  pending_left (first ∷ _ ∷ _) _ = sym (ap (used_pages_in old) live.live)

  pub shows_moved : (changes : List Change) → NeedsTransfer (capacity old) (state_of old) changes
      → new.size ≡ old.size
      → IsDrawn (other side) new
      (filled_set old.size (generation + 1)
      (moved_words changes (meaning (slots_of (set_of side old)))))
      → IsDrawn side new (retired_pages (is_used side old) (picture_of side old))
      → ShowsMoved old changes new side generation
  shows_moved changes needed sizes new_drawn old_drawn =
      grind (arith, common_steps, state_is, drawn_as, used_are_left)

  pub shows_cut_move : (changes : List Change)
      → ErasesPartly (first_page old.size (other side)) (set_of (other side) old) old new
      ⊎ MovesPartly old new side generation
      (moved_words changes (meaning (slots_of (set_of side old))))
      → ShowsCutMove old changes new side generation
  shows_cut_move changes left = search (rules, state_is)

  pub appends : (change : Change) → Proceeds old (change ∷ []) → GoesOn old new
      → fill_of (slots_of (set_of side old)) < capacity old
      → TakesSlot old new side generation (map_after change (meaning (slots_of (set_of side old))))
      → IsSameSet (other side) old new → new.wear ≡ old.wear → ShowsAppended old change new side
      → Completes (steps_of_append change old) old new → Appends old change new
  appends _ proceeds goes_on free takes same wear shows steps =
      search (fill_was, state_is, state_appended, pending_stays)

  cut_append : (change : Change) → IsSameSet (other side) old new
      → MayTakeSlot old new side generation change
      → IsCutAppend (state_of old) change (state_of new)
  cut_append _ same (inl keeps) = inl (state_same keeps same)
  cut_append _ same (inr (inl torn)) = inr (inl (state_spoiled torn same))
  cut_append change same (inr (inr whole)) = inr (inr (state_appended change whole same))

  pub cut_in_append : (change : Change) → Proceeds old (change ∷ []) → IsCut old new
      → fill_of (slots_of (set_of side old)) < capacity old → IsSameSet (other side) old new
      → MayTakeSlot old new side generation change → new.wear ≡ old.wear
      → ShowsCutAppend old change new side → StopsAmong (steps_of_append change old) old new
      → IsCutChange old change new
  cut_in_append change proceeds cut free same left wear shows stops = record {
    steps = subst (λ (list : List Step). IsCutAmong list old new)
        (making_appends old change (omega (arith, fill_was))) (among_on proceeds.on stops);
    free_words = search rules;
    used_words = λ all. absurd (omega (arith, fill_was));
    proceeds = proceeds;
    cut = cut;
    within = omega (arith, fill_was);
    free = λ _. cut_append change same left;
    all_used = λ all. absurd (omega (arith, fill_was));
    no_wear = λ _. wear;
  }

  state_left : (changes : List Change) → NeedsTransfer (capacity old) (state_of old) changes
      → HasMoved old new side generation changes
      → state_of new ≡ moved_state (pages_left changes old) changes (state_of old)
  state_left changes needed has =
      state_moved _ _ _ _ live _ has
      ∙ ap (λ n. moved_state n changes (state_of old)) (pending_left changes needed)

  pub moves : (changes : List Change) → Proceeds old changes → GoesOn old new
      → NeedsTransfer (capacity old) (state_of old) changes
      → HasMoved old new side generation changes → Wears (not_blank_in (other side) old) old new
      → ShowsMoved old changes new side generation
      → Completes (steps_of_transfer changes old) old new → Moves old changes new
  moves changes proceeds goes_on needed has wear shows steps =
      search (rules, pending_left, few_pending, state_is, state_left, pending_was)

  cut_move : (changes : List Change) → NeedsTransfer (capacity old) (state_of old) changes
      → pending_of (set_of (other side) new) ≤ old.size.pages
      → KeepsLiveSet old new side generation ⊎ HasMoved old new side generation changes
      → IsCutMove old.size.pages (pages_left changes old) (state_of old) changes (state_of new)
  cut_move _ _ few (inl keeps) =
      inl (pending_of (set_of (other side) new), few, state_kept _ _ _ _ live keeps _ refl)
  cut_move changes needed _ (inr has) = inr (state_left changes needed has)

  module _ (cut : IsCut old new) (few : pending_of (set_of (other side) new) ≤ old.size.pages) where
    pub cut_in_move : (changes : List Change) → Proceeds old changes
        → NeedsTransfer (capacity old) (state_of old) changes
        → KeepsLiveSet old new side generation ⊎ HasMoved old new side generation changes
        → ShowsCutMove old changes new side generation
        → StopsAmong (steps_of_transfer changes old) old new → IsCutMaking old changes new
    cut_in_move [] _ needed _ _ _ = absurd needed
    cut_in_move (change ∷ []) proceeds needed left shows stops = record {
      steps = subst (λ (list : List Step). IsCutAmong list old new)
          (making_moves old change needed) (among_on proceeds.on stops);
      used_words = search rules;
      free_words = λ less. absurd (omega arith);
      proceeds = proceeds;
      cut = cut;
      within = omega arith;
      free = λ less. absurd (omega arith);
      all_used = λ _. cut_move (change ∷ []) needed few left;
      no_wear = λ less. absurd (omega arith);
    }
    cut_in_move (first ∷ second ∷ more) proceeds needed left shows stops =
        record {
          steps = among_on proceeds.on stops;
          proceeds = proceeds;
          cut = cut;
          state_is = search cut_move;
          words = search rules;
        }

-- the word of a change of a map, with the value that it forgets
pub number_is : (change : declared.Change) (map : Map) → ForgetsHeld map change
    → number_written change ≡ number_of_change map (map_change change)
number_is (kinds.Put _ _) _ _ = refl
number_is (kinds.Forget _ _) _ held = rw held refl

pub append_is : (old : Device) (layout : Layout) (change : declared.Change) → IsLayout old layout
    → ForgetsHeld (state_of old).map change
    → steps_to_append old layout.side layout.fill (number_written change)
    ≡ steps_of_append (map_change change) old
append_is old layout change found held =
    ap (λ n. steps_to_append old layout.side n (number_written change))
    (found.fill ∙ sym (fill_was old old layout.side layout.generation found.live))
    ∙ ap (steps_to_append old layout.side (state_of old).fill)
    (number_is change (state_of old).map held)
    ∙ sym
    (ap
    (steps_in (λ side generation.
    steps_to_append old side (state_of old).fill
    (number_of_change (state_of old).map (map_change change)))) found.live.live)

-- the counts of a map that a change is accepted for
put_count : (live now slots : ℕ) (held : Bool) → now ≡ live + cond held 0 1 → live ≤ slots
    → (held ≡ false → live ≢ slots) → now ≤ slots
put_count _ _ _ true e h _ = omega arith
put_count _ _ _ false e h room = let other = room refl in omega arith

none_is : (value : Option ℕ) → is_some value ≡ false → value ≡ None
none_is None e = refl
none_is (Some _) e = absurd (cc e)

module _ (device : Device) (side : Side) (generation : ℕ) (live : IsLive device side generation)
    (within : fill_of (slots_of (set_of side device)) ≤ capacity device) where
  held : live_in (meaning (slots_of (set_of side device))) ≤ capacity device
  held = search (rules, live_within_fill)

  -- a change that is accepted keeps the live addresses within the slots
  change_fits : (change : Change) → IsAddress (address_of change)
      → IsAccepted (capacity device) (state_of device) (change ∷ [])
      → live_in (map_after change (meaning (slots_of (set_of side device)))) ≤ capacity device
  change_fits (Put address value) proper accepted =
      let map = meaning (slots_of (set_of side device)) in
      put_count (live_in map) _ (capacity device) (is_some (map address))
      (change_counts (Put address value) map proper) held
      (λ none all. accepted.has_place
      (record {
        new_address = search (rules, map_was, none_is);
        all_live = search (rules, state_is);
      }))
  change_fits (Forget address) proper _ =
      let counts =
      change_counts (Forget address) (meaning (slots_of (set_of side device))) proper in
      omega (arith, held)

  -- and so do several
  pub changes_fit : (changes : List Change) → AreApart changes
      → IsAccepted (capacity device) (state_of device) changes
      → live_in (changed_by changes (meaning (slots_of (set_of side device)))) ≤ capacity device
  changes_fit [] _ _ = held
  changes_fit (change ∷ []) apart accepted = change_fits change apart.0 accepted
  changes_fit (first ∷ second ∷ more) _ accepted =
      let same =
      ap (λ state. live_in (changed_by (first ∷ second ∷ more) state.map)) (state_is _ _ _ live) in
      search rules

-- a receive word's generation is proper
receives : (number generation : ℕ) (above below : Bool) → nat_lt 0xAAAAAAAA00000000 number ≡ above
    → nat_lt number 0xAAAAAAAAFFFFFFFF ≡ below
    → cond (above && below) (Some (number - 0xAAAAAAAA00000000)) None ≡ Some generation
    → IsGeneration generation
receives _ _ _ _ = grind (arith, common_steps)

proper_receive : (word : Word) (generation : ℕ) → receive_of word ≡ Some generation
    → IsGeneration generation
proper_receive Erased _ e = cc
proper_receive Torn _ e = cc
proper_receive (Held number) generation e = receives number generation _ _ refl refl e

commit_proper : (marked : Bool) (word : Word) (generation : ℕ)
    → cond marked (receive_of word) None ≡ Some generation → IsGeneration generation
commit_proper true word generation e = proper_receive word generation e
commit_proper false _ _ e = cc

-- the generation of a live set is proper
pub generation_proper : (device : Device) (side : Side) (generation : ℕ)
    → IsLive device side generation → IsGeneration generation
generation_proper device side generation live = search (commit_proper, live_commits)

-- where a transfer is accepted, a generation is left for it
module _ (device : Device) (side : Side) (generation : ℕ)
    (live : IsLive device side generation) where
  not_greatest : ((state_of device).generation ≡ greatest_generation → ⊥)
      → IsGeneration (generation + 1)
  not_greatest left = search (rules, state_is, generation_proper)

  pub generation_left : (changes : List Change)
      → NeedsTransfer (capacity device) (state_of device) changes
      → ¬ HaveNoGeneration (capacity device) (state_of device) changes
      → IsGeneration (generation + 1)
  generation_left [] needed _ = absurd needed
  generation_left (change ∷ []) needed left =
      not_greatest (λ last. left (record { all_used = needed; last_generation = last }))
  generation_left (first ∷ _ ∷ _) _ left = not_greatest left

-- a claim that holds in any case holds at an error
pub always_on_err : {T E X : Type 0} (result : Result T E) → X → OnErr result X
always_on_err (Ok _) _ = tt
always_on_err (Err _) claim = claim

-- a device that is off, with a legal image, is a store's
pub off_store : (device : Device) (side : Side) (generation : ℕ) → IsLive device side generation
    → IsOff device → IsStore device
off_store _ _ _ live off = search rules

-- a device with this live set, and no mark left, is a store's
pub marked_store : (device : Device) (side : Side) (generation : ℕ) → IsLive device side generation
    → IsMarked device side → IsStore device
marked_store _ _ _ live marked = search rules

-- and the other way round
pub store_marked : (device : Device) (side : Side) (generation : ℕ) → IsStore device → IsOn device
    → IsLive device side generation → IsMarked device side
store_marked _ side generation store on live = store.finished on side generation live.live

pub live_after_append : (old new : Device) (side : Side) (generation : ℕ) (change : Change)
    → MayTakeSlot old new side generation change → IsLive new side generation
live_after_append _ _ _ _ _ (inl keeps) = keeps.live
live_after_append _ _ _ _ _ (inr (inl takes)) = takes.live
live_after_append _ _ _ _ _ (inr (inr takes)) = takes.live

pub store_after_move : (old new : Device) (side : Side) (generation : ℕ) (changes : List Change)
    → IsOff new → KeepsLiveSet old new side generation ⊎ HasMoved old new side generation changes
    → IsStore new
store_after_move _ new side generation _ off (inl keeps) =
    off_store new side generation keeps.live off
store_after_move _ new side generation _ off (inr has) =
    off_store new (other side) (generation + 1) has.live off

-- while a slot is free no address is refused
pub not_full_yet : (device : Device) (side : Side) (generation : ℕ) (address : ℕ)
    → IsLive device side generation → fill_of (slots_of (set_of side device)) < capacity device
    → ¬ IsFull (capacity device) (state_of device) address
not_full_yet _ _ _ address live free full = search (rules, live_within_fill, state_is)

-- nor is a transfer needed
pub not_spent_yet : (device : Device) (layout : Layout) → IsLayout device layout
    → layout.fill < capacity device → ¬ IsSpent (capacity device) (state_of device)
not_spent_yet device layout found free spent =
    absurd
    (omega (
      arith,
      free,
      found.fill,
      fill_was device device layout.side layout.generation found.live,
      spent.all_used,
    ))

-- so a value is accepted
pub put_proceeds : (device : Device) (layout : Layout) (address value : ℕ) → IsLayout device layout
    → IsOn device → layout.fill < capacity device → Proceeds device (Put address value ∷ [])
put_proceeds device layout address value found on free = record {
  on = on;
  accepted = record {
    has_place =
        not_full_yet device layout.side layout.generation address found.live
        (omega (arith, free, found.fill));
    not_spent = not_spent_yet device layout found free;
  };
}

-- no more slots are written than a set has
pub few_within : (device : Device) (side : Side) → IsFormed device
    → fill_of (slots_of (set_of side device)) ≤ capacity device
few_within device side formed = search (rules, filter_few, length-slots)

-- where none is free a change needs a transfer
pub all_written : (device : Device) (layout : Layout) → IsLayout device layout
    → capacity device ≤ layout.fill → (state_of device).fill ≡ capacity device
all_written device layout found past =
    omega (
      arith,
      past,
      found.fill,
      fill_was device device layout.side layout.generation found.live,
      few_within device layout.side found.live.formed,
    )

-- what is known of a store is known behind a clean step
module _ {L : Type 0} (finds : L → List Word → Type 0) (known : Known L) (old new : Device) where
  clean_keeps : IsStore new → KeepsLiveSet old new known.layout.side known.layout.generation
      → IsOn old → Knows finds old known → Knows finds new known
  clean_keeps store keeps on knows = search (rules, layout_kept)

  pub clean_known : {T E : Type 0} (result : Result T E) → IsOn old → Knows finds old known
      → KeepsLiveSet old new known.layout.side known.layout.generation
      → (IsMarked old known.layout.side → OnOk result (IsMarked new known.layout.side))
      → Ends result old new → Knows finds new known
  clean_known (Ok _) on knows keeps marked _ =
      clean_keeps
      (marked_store new known.layout.side known.layout.generation keeps.live
      (marked
      (store_marked old known.layout.side known.layout.generation knows.store on
      (knows.layout on).live))) keeps on knows
  clean_known (Err _) on knows keeps _ ends =
      clean_keeps
      (off_store new known.layout.side known.layout.generation keeps.live (ends.cut on).is_off)
      keeps on knows
