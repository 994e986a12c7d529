-- The steps of a transfer, part by part.
use Rattle.ee_core.proofs.Words.{rules, ◌≡◌, ℕ, ◌+◌, ◌-◌, ◌<◌, List, [], ◌∷◌, ◌++◌, length, subst, ap, ◌∙◌}
use Rattle.ee_core.proofs.Sets.{Device, IsFormed, Size, Step, Word, Change, marking, first_page, fill_of, other, other_twice, page_of_slot, set_of, slots_of, Layout, Side, Active, Receive}
use Rattle.ee_core.proofs.Calls.{last_used}
use Rattle.ee_core.specs.StepLists.{steps_to_clear, steps_to_close, steps_to_commit, steps_to_fill, steps_to_finish, steps_to_move, steps_to_retire}
use Rattle.ee_flash.specs.Taking.{Completes, StopsAmong}
use Rattle.ee_core.specs.Transfers.{MapMoved}
use Rattle.ee_core.proofs.ClosedSets.{close_is, retire_same}
use Rattle.ee_pages.specs.Layout.{IsLayout}
use Rattle.ee_core.proofs.LiveMarks.{last_in_range}
use Rattle.ee_core.proofs.Taken.{completes_both, stops_first, stops_then}

module _ (old : Device) (side : Side) (generation : ℕ) (words : List Word) where
  abbrev clears : List Step
  clears = steps_to_clear old (other side)

  abbrev opens : Size → List Step
  opens size = marking (first_page size (other side)) (Receive (generation + 1)) ∷ []

  abbrev fills : Size → List Step
  fills size = steps_to_fill size (other side) (generation + 1) 0 words

  abbrev commits : Size → List Step
  commits size = marking (first_page size (other side)) Active ∷ []

  pub clear_stops : (new : Device) → StopsAmong clears old new
      → StopsAmong (steps_to_commit old side generation words) old new
  clear_stops _ stops =
      stops_first (clears ++ opens old.size ++ fills old.size) (commits old.size)
      (stops_first (clears ++ opens old.size) (fills old.size)
      (stops_first clears (opens old.size) stops))

  module _ (cleared : Device) (cleared_done : Completes clears old cleared)
      (cleared_size : cleared.size ≡ old.size) where
    pub open_stops : (new : Device) → StopsAmong (opens cleared.size) cleared new
        → StopsAmong (steps_to_commit old side generation words) old new
    open_stops new stops =
        stops_first (clears ++ opens old.size ++ fills old.size) (commits old.size)
        (stops_first (clears ++ opens old.size) (fills old.size)
        (stops_then clears (opens old.size) cleared_done
        (subst (λ (size : Size). StopsAmong (opens size) cleared new) cleared_size stops)))

    module _ (opened : Device) (opened_done : Completes (opens cleared.size) cleared opened)
        (opened_size : opened.size ≡ old.size) where
      opened_all : Completes (clears ++ opens old.size) old opened
      opened_all =
          completes_both clears (opens old.size) cleared_done
          (subst (λ (size : Size). Completes (opens size) cleared opened) cleared_size opened_done)

      pub fill_stops : (new : Device) → StopsAmong (fills opened.size) opened new
          → StopsAmong (steps_to_commit old side generation words) old new
      fill_stops new stops =
          stops_first (clears ++ opens old.size ++ fills old.size) (commits old.size)
          (stops_then (clears ++ opens old.size) (fills old.size) opened_all
          (subst (λ (size : Size). StopsAmong (fills size) opened new) opened_size stops))

      module _ (filled : Device) (filled_done : Completes (fills opened.size) opened filled)
          (filled_size : filled.size ≡ old.size) where
        filled_all : Completes (clears ++ opens old.size ++ fills old.size) old filled
        filled_all =
            completes_both (clears ++ opens old.size) (fills old.size) opened_all
            (subst (λ (size : Size). Completes (fills size) opened filled) opened_size filled_done)

        pub commit_stops : (new : Device) → StopsAmong (commits filled.size) filled new
            → StopsAmong (steps_to_commit old side generation words) old new
        commit_stops new stops =
            stops_then (clears ++ opens old.size ++ fills old.size) (commits old.size) filled_all
            (subst (λ (size : Size). StopsAmong (commits size) filled new) filled_size stops)

        pub commit_done : (new : Device) → Completes (commits filled.size) filled new
            → Completes (steps_to_commit old side generation words) old new
        commit_done new done =
            completes_both (clears ++ opens old.size ++ fills old.size) (commits old.size)
            filled_all
            (subst (λ (size : Size). Completes (commits size) filled new) filled_size done)

-- the marks behind that
module _ (old mid : Device) (layout : Layout) (changes : List Change) (words : List Word)
    (count : ℕ) (formed : IsFormed old) (moves : MapMoved old mid layout changes words count)
    (below : last_used mid (other layout.side) < mid.size.pages) where
  abbrev closes : List Step
  closes =
      steps_to_close old.size (other layout.side) (page_of_slot old.size (length words - 1))

  fill : fill_of (slots_of (set_of (other layout.side) mid)) ≡ length words
  fill = search rules

  last_is : last_used mid (other layout.side) ≡ page_of_slot old.size (length words - 1)
  last_is =
      ap (λ n. page_of_slot mid.size (n - 1)) fill
      ∙ ap (λ (size : Size). page_of_slot size (length words - 1)) moves.moved.same_size

  finish_is : steps_to_finish mid (other layout.side) (last_used mid (other layout.side))
      ≡ closes ++ steps_to_retire old layout.side
  finish_is =
      ap (λ list. list ++ steps_to_retire mid (other (other layout.side)))
      (close_is mid (other layout.side) (layout.generation + 1) words
      (last_used mid (other layout.side)) moves.moved.live.formed moves.new_pages below
      ∙ ap (λ (size : Size). steps_to_close size (other layout.side)
      (last_used mid (other layout.side))) moves.moved.same_size
      ∙ ap (steps_to_close old.size (other layout.side)) last_is)
      ∙ ap (λ list. closes ++ list)
      (ap (steps_to_retire mid) (other_twice layout.side)
      ∙ retire_same layout.side old mid formed moves.moved.live.formed moves.moved.same_size
      moves.live_pages)

  module _ (side : Side) (to : side ≡ other layout.side) (new : Device) where
    pub move_stops : Completes (steps_to_commit old layout.side layout.generation words) old mid
        → StopsAmong (steps_to_finish mid side (last_used mid side)) mid new
        → StopsAmong (steps_to_move old layout.side layout.generation words) old new
    move_stops first stops =
        stops_then (steps_to_commit old layout.side layout.generation words)
        (closes ++ steps_to_retire old layout.side) first
        (subst (λ (list : List Step). StopsAmong list mid new)
        (ap (λ set. steps_to_finish mid set (last_used mid set)) to ∙ finish_is) stops)

    pub move_done : Completes (steps_to_commit old layout.side layout.generation words) old mid
        → Completes (steps_to_finish mid side (last_used mid side)) mid new
        → Completes (steps_to_move old layout.side layout.generation words) old new
    move_done first done =
        completes_both (steps_to_commit old layout.side layout.generation words)
        (closes ++ steps_to_retire old layout.side) first
        (subst (λ (list : List Step). Completes list mid new)
        (ap (λ set. steps_to_finish mid set (last_used mid set)) to ∙ finish_is) done)

pub move_first : (old : Device) (side : Side) (generation : ℕ) (words : List Word) (new : Device)
    → StopsAmong (steps_to_commit old side generation words) old new
    → StopsAmong (steps_to_move old side generation words) old new
move_first old side generation words new stops =
    stops_first (steps_to_commit old side generation words)
    (steps_to_close old.size (other side) (page_of_slot old.size (length words - 1))
    ++ steps_to_retire old side) stops

-- the last used page is one of the set
pub move_below : (mid : Device) (from side : Side) → side ≡ other from → (after : Layout)
    → IsLayout mid after → after.side ≡ side → last_used mid (other from) < mid.size.pages
move_below mid from side to after found is =
    subst (λ (set : Side). last_used mid set < mid.size.pages) (is ∙ to)
    (last_in_range after mid found)
