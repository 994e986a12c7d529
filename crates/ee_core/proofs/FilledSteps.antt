-- The steps that fill a set, word by word.
use Rattle.ee_core.proofs.Words.{◌≡◌, ◌≢◌, inr, ℕ, ◌+◌, ◌-◌, ◌%◌, ◌<◌, List, [], ◌∷◌, ◌++◌, length, sym, subst, ap, ◌∙◌, arith, length-append}
use Rattle.ee_core.proofs.Sets.{Device, IsFormed, Size, Step, Word, Held, slot_count, first_page, other, page_of_slot, Side, Receive, slot_step}
use Rattle.ee_core.proofs.Calls.{AddsWords, Holds}
use Rattle.ee_core.specs.StepLists.{steps_to_fill, steps_to_mark, steps_to_receive}
use Rattle.ee_flash.specs.Taking.{Completes, StopsAmong}
use Rattle.ee_core.specs.Transfers.{AddsSteps, AddsStepsPartly}
use Rattle.ee_core.proofs.OpenedPages.{same_place}
use Rattle.ee_core.proofs.Taken.{completes_both, completes_none, stops_first, stops_then}
use Rattle.ee_core.proofs.TurnedPages.{fill-append, receive_is, receive_none}

-- ---- words, and more behind them

pub adds_steps_none : (device : Device) (side : Side) (generation count : ℕ)
    → AddsSteps device device side generation count []
adds_steps_none device _ _ _ = record { taken = λ held long holds. completes_none device }

module _ (old mid new : Device) (side : Side) (generation count slot : ℕ) (words more : List Word)
    (sizes : mid.size ≡ old.size) (at : slot ≡ count + length words)
    (adds : AddsWords old mid side generation count words)
    (first : AddsSteps old mid side generation count words) where
  abbrev these : List Step
  these = steps_to_fill old.size (other side) generation count words

  abbrev those : List Step
  those = steps_to_fill old.size (other side) generation (count + length words) more

  those_are : steps_to_fill mid.size (other side) generation slot more ≡ those
  those_are =
      ap (λ (size : Size). steps_to_fill size (other side) generation slot more) sizes
      ∙ ap (λ n. steps_to_fill old.size (other side) generation n more) at

  longer : (held : List Word) → length held ≡ count → length (held ++ words) ≡ slot
  longer held long = omega (arith, length-append held words, long, at)

  pub adds_steps_both : AddsSteps mid new side generation slot more
      → AddsSteps old new side generation count (words ++ more)
  adds_steps_both second = record {
    taken = λ held long holds.
        subst (λ (list : List Step). Completes list old new)
        (sym (fill-append old.size (other side) generation count words more))
        (completes_both these those (first.taken held long holds)
        (subst (λ (list : List Step). Completes list mid new) those_are
        (second.taken (held ++ words) (longer held long) (adds.new_pages held long holds))));
  }

  pub adds_steps_then : AddsStepsPartly mid new side generation slot more
      → AddsStepsPartly old new side generation count (words ++ more)
  adds_steps_then second = record {
    stopped = λ held long holds.
        subst (λ (list : List Step). StopsAmong list old new)
        (sym (fill-append old.size (other side) generation count words more))
        (stops_then these those (first.taken held long holds)
        (subst (λ (list : List Step). StopsAmong list mid new) those_are
        (second.stopped (held ++ words) (longer held long) (adds.new_pages held long holds))));
  }

pub stops_longer : (old new : Device) (side : Side) (generation count : ℕ) (words rest : List Word)
    → AddsStepsPartly old new side generation count words
    → AddsStepsPartly old new side generation count (words ++ rest)
stops_longer old new side generation count words rest stops = record {
  stopped = λ held long holds.
      subst (λ (list : List Step). StopsAmong list old new)
      (sym (fill-append old.size (other side) generation count words rest))
      (stops_first (steps_to_fill old.size (other side) generation count words)
      (steps_to_fill old.size (other side) generation (count + length words) rest)
      (stops.stopped held long holds));
}

-- ---- one word

-- the receive word of its page, if it begins it, is there
abbrev pub Receives : Device → Device → Side → ℕ → ℕ → Type 0
Receives old mid side generation slot =
    (held : List Word) → length held ≡ slot → Holds old side generation held
    → Completes (steps_to_receive old.size side generation slot) old mid

module _ (old : Device) (side : Side) (generation slot : ℕ) (formed : IsFormed old)
    (free : slot < slot_count old.size) where
  mark_is : (page : ℕ) → page ≡ first_page old.size side + page_of_slot old.size slot
      → (held : List Word) → length held ≡ slot → Holds old side generation held
      → steps_to_mark old (Receive generation) page
      ≡ steps_to_receive old.size side generation slot
  mark_is page is held long holds =
      ap (λ n. steps_to_mark old (Receive generation) n) is
      ∙ receive_is old side generation slot held formed free long holds

  pub received_done : (mid : Device) (page : ℕ)
      → page ≡ first_page old.size side + page_of_slot old.size slot
      → Completes (steps_to_mark old (Receive generation) page) old mid
      → Receives old mid side generation slot
  received_done mid page is done held long holds =
      subst (λ (list : List Step). Completes list old mid) (mark_is page is held long holds) done

  pub received_none : slot % (old.size.words - 4) ≢ 0 → Receives old old side generation slot
  received_none inside held long holds =
      subst (λ (list : List Step). Completes list old old)
      (sym (receive_none old.size side generation slot
      (same_place slot (old.size.words - 4)
      (omega (arith, formed.within_limits.some_words)) (inr inside)))) (completes_none old)

  -- cut in it
  pub receive_stops : (new : Device) (page number : ℕ)
      → page ≡ first_page old.size side + page_of_slot old.size slot
      → StopsAmong (steps_to_mark old (Receive generation) page) old new
      → (held : List Word) → length held ≡ slot → Holds old side generation held
      → StopsAmong (steps_to_fill old.size side generation slot (Held number ∷ [])) old new
  receive_stops new page number is stops held long holds =
      stops_first (steps_to_receive old.size side generation slot)
      (slot_step old.size side slot number ∷ [])
      (subst (λ (list : List Step). StopsAmong list old new) (mark_is page is held long holds)
      stops)

-- and then the word
module _ (old mid new : Device) (side : Side) (generation slot number : ℕ)
    (sizes : mid.size ≡ old.size) (receives : Receives old mid side generation slot) where
  pub word_done : Completes (slot_step mid.size side slot number ∷ []) mid new
      → (held : List Word) → length held ≡ slot → Holds old side generation held
      → Completes (steps_to_fill old.size side generation slot (Held number ∷ [])) old new
  word_done done held long holds =
      completes_both (steps_to_receive old.size side generation slot)
      (slot_step old.size side slot number ∷ []) (receives held long holds)
      (subst (λ (size : Size). Completes (slot_step size side slot number ∷ []) mid new) sizes done)

  pub word_stops : StopsAmong (slot_step mid.size side slot number ∷ []) mid new
      → (held : List Word) → length held ≡ slot → Holds old side generation held
      → StopsAmong (steps_to_fill old.size side generation slot (Held number ∷ [])) old new
  word_stops stops held long holds =
      stops_then (steps_to_receive old.size side generation slot)
      (slot_step old.size side slot number ∷ []) (receives held long holds)
      (subst (λ (size : Size). StopsAmong (slot_step size side slot number ∷ []) mid new) sizes
      stops)
