-- What an opening leaves, from what setting the marks leaves.
use Rattle.ee_core.proofs.Words.{rules, ◌≡◌, ℕ, Some, List, [], subst, ap, ◌∙◌}
use Rattle.ee_core.proofs.Sets.{Device, IsOn, Step, IsLayout, IsLive, live_of, Layout, Side, First, Second}
use Rattle.ee_core.proofs.Calls.{last_used, IsFinished, IsMarked, IsStore, IsCutOpening, IsFormatted, Opens, ShowsCutMarks, ShowsMarks, not_blank_pages, IsDrawn, blank_picture, filled_set, Stays, Wears, formatted_state, state_of}
use Rattle.ee_core.specs.StepLists.{steps_of_format, steps_of_open, steps_to_finish}
use Rattle.ee_flash.specs.Taking.{Completes, IsCutAmong, StopsAmong}
use Rattle.ee_core.proofs.PublicSteps.{open_is}
use Rattle.ee_flash.specs.Laws.{all_completed}
use Rattle.ee_core.proofs.Taken.{among_on, cut_taken, goes_on_taken, nothing_stops}
use Rattle.ee_core.proofs.LiveSteps.{none_to_finish}
use Rattle.ee_core.proofs.States.{state_is, state_stays}

-- where the marks of the live set and of the other one are set, none is left
pub finished_from : (device : Device) (side : Side) (generation : ℕ) → IsLive device side generation
    → IsMarked device side → IsFinished device
finished_from device _ _ live marked _ _ is = search rules

module _ (layout : Layout) (old new : Device) (is : IsLayout old layout)
    (stays : Stays old new layout.side layout.generation) where
  none_left : IsFinished old
      → steps_to_finish old layout.side (last_used old layout.side) ≡ []
  none_left finished =
      none_to_finish old layout.side is.live.formed
      (finished layout.side layout.generation is.live.live)

  pub opens : IsMarked new layout.side → ShowsMarks old new layout.side
      → Completes (steps_to_finish old layout.side (last_used old layout.side)) old new
      → Opens old new
  opens marked shows taken =
      let steps : Completes (steps_of_open old) old new =
      subst (λ (list : List Step). Completes list old new) (open_is old layout is) taken in
      let on = goes_on_taken (steps_of_open old) steps in
      let no_step : IsFinished old → new ≡ old =
      λ finished. taken.done ∙ ap (λ list. all_completed list old) (none_left finished) in
      search (finished_from, state_stays)

  pub opening_cut : ShowsCutMarks old new layout.side → IsOn old
      → StopsAmong (steps_to_finish old layout.side (last_used old layout.side)) old new
      → IsCutOpening old new
  opening_cut shows on stops =
      let steps : IsCutAmong (steps_of_open old) old new =
      subst (λ (list : List Step). IsCutAmong list old new) (open_is old layout is)
      (among_on on stops) in
      let cut = cut_taken steps in
      let left : IsFinished old → ⊥ =
      λ finished. nothing_stops
      (subst (λ (list : List Step). IsCutAmong list old new) (none_left finished)
      (among_on on stops)) in
      search state_stays

-- a new store whose live set is the first has it with generation 1
live_first : (layout : Layout) (new : Device) → IsLayout new layout → layout.side ≡ First
    → state_of new ≡ formatted_state → live_of new ≡ Some (First, 1)
live_first layout _ is first state = search (rules, state_is)

pub format_store : (layout : Layout) (new : Device) → IsLayout new layout → layout.side ≡ First
    → IsMarked new First → IsStore new
format_store layout new is first marked = search (rules, finished_from)

pub formats : (layout : Layout) (old new : Device) → IsLayout new layout → layout.side ≡ First
    → IsMarked new First → state_of new ≡ formatted_state
    → IsDrawn First new (filled_set new.size 1 []) → IsDrawn Second new blank_picture
    → Wears (not_blank_pages old) old new
    → Completes (steps_of_format old) old new → IsFormatted old new
formats layout _ new is first marked state first_set second_set wear steps =
    let on = goes_on_taken _ steps in
    search (format_store, live_first)
