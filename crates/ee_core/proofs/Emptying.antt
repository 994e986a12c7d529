-- What a clear makes of a state, whole or cut, from what its transfer leaves.
use Rattle.ee_core.proofs.Words.{◌≡◌, ◌⊎◌, inl, inr, ℕ, ◌+◌, ◌≤◌, Some, None, List, [], ◌∷◌, refl, sym, subst, ap, ◌∙◌, fun_ext, rules}
use Rattle.ee_core.proofs.Sets.{Device, GoesOn, IsCut, KeepsLiveSet, IsLive, Change, Forget, changed_by, live_in, meaning, first_page, live_of, other, pending_of, set_of, slots_of, Side}
use Rattle.ee_core.proofs.Calls.{HasMoved, Moves, ErasesPartly, MovesPartly, IsDrawn, filled_set, is_used, moved_words, picture_of, retired_pages, each_forgotten, Wears, not_blank_in, state_of, with_pending, used_pages_in, used_pages_of}
use Rattle.ee_core.proofs.Making.{pending_was}
use Rattle.ee_core.proofs.Nothing.{all_forgotten, none_live, none_moved}
use Rattle.ee_core.proofs.States.{state_is, state_kept, state_moved}
use Rattle.ee_core.specs.Emptying.{Empties, IsCutClear, MayClear, ShowsCleared, cleared_state}
use Rattle.ee_core.specs.Puts.{forgets_from}
use Rattle.ee_core.specs.CallSteps.{map_in}
use Rattle.ee_core.specs.StepLists.{steps_in, steps_of_clear, steps_of_transfer, steps_to_move}
use Rattle.ee_flash.specs.Step.{Step}
use Rattle.ee_flash.specs.Taking.{Completes, StopsAmong}
use Rattle.ee_core.proofs.Taken.{among_on}

module _ (old new : Device) (side : Side) (generation : ℕ) (live : IsLive old side generation) where
  state_cleared : HasMoved old new side generation each_forgotten
      → state_of new ≡ cleared_state (used_pages_of old) (state_of old)
  state_cleared has =
      let slots = slots_of (set_of side old) in
      let map = ap (λ state. state.map) (state_is _ _ _ live) in
      state_moved _ _ _ _ live _ has
      ∙ rw (
        (ap (λ said. live_in (changed_by each_forgotten said)) map ∙ sym (none_live slots)),
        (ap (changed_by each_forgotten) map ∙ fun_ext (all_forgotten slots)),
        (sym (ap (used_pages_in old) live.live)),
      ) refl

  pub empties : MayClear old → pending_of (set_of side old) ≤ old.size.pages → GoesOn old new
      → HasMoved old new side generation each_forgotten
      → Wears (not_blank_in (other side) old) old new
      → IsDrawn (other side) new (filled_set old.size (generation + 1) [])
      → IsDrawn side new (retired_pages (is_used side old) (picture_of side old))
      → Completes (steps_of_clear old) old new → Empties old new
  empties may few goes_on has wear new_pages old_pages steps =
      search (rules, state_is, state_cleared, pending_was)

  state_cut : pending_of (set_of (other side) new) ≤ old.size.pages
      → KeepsLiveSet old new side generation ⊎ HasMoved old new side generation each_forgotten
      → ((pending : ℕ) × (pending ≤ old.size.pages)
      × (state_of new ≡ with_pending pending (state_of old)))
      ⊎ (state_of new ≡ cleared_state (used_pages_of old) (state_of old))
  state_cut few (inl keeps) =
      inl (pending_of (set_of (other side) new), few, state_kept _ _ _ _ live keeps _ refl)
  state_cut _ (inr has) = inr (state_cleared has)

  pub cut_clear : MayClear old → IsCut old new
      → pending_of (set_of (other side) new) ≤ old.size.pages
      → KeepsLiveSet old new side generation ⊎ HasMoved old new side generation each_forgotten
      → ErasesPartly (first_page old.size (other side)) (set_of (other side) old) old new
      ⊎ MovesPartly old new side generation []
      → StopsAmong (steps_of_clear old) old new → IsCutClear old new
  cut_clear may cut few left words stops = record {
    may = may;
    cut = cut;
    steps = among_on may.on stops;
    state_is = state_cut few left;
    words = (side, generation, live.live, words);
  }

-- ---- a clear is a transfer that forgets each address

two_first : each_forgotten ≡ Forget 1 ∷ Forget 2 ∷ forgets_from 3 65532
unfolding forgets_from
two_first = refl

module _ (old new : Device) (side : Side) (generation : ℕ)
    (live : live_of old ≡ Some (side, generation)) where
  map_said : (state_of old).map ≡ meaning (slots_of (set_of side old))
  map_said = search rules

  none_left : changed_by each_forgotten (state_of old).map ≡ (λ address. None)
  none_left = search (rules, map_said, all_forgotten)

  none_counted : live_in (changed_by each_forgotten (state_of old).map) ≡ 0
  none_counted = search (rules, map_said, none_live)

  no_words_left : moved_words each_forgotten (state_of old).map ≡ []
  no_words_left = search (map_said, none_moved)

  module _ (first second : Change) (more : List Change)
      (same : each_forgotten ≡ first ∷ second ∷ more) where
    abbrev all : List Change
    all = first ∷ second ∷ more

    all_counted : live_in (changed_by all (state_of old).map) ≡ 0
    all_counted = search none_counted

    same_steps : steps_of_clear old ≡ steps_of_transfer all old
    same_steps =
        ap (steps_in (λ side generation. steps_to_move old side generation [])) live
        ∙ sym
        (ap (steps_to_move old side generation)
        (ap (λ changes. moved_words changes (map_in side old)) (sym same)
        ∙ none_moved (slots_of (set_of side old))))
        ∙ sym
        (ap
        (steps_in (λ side generation.
        steps_to_move old side generation (moved_words all (map_in side old)))) live)

    all_moves : Empties old new → ShowsCleared old new side generation → Moves old all new
    all_moves done shows = record {
      proceeds = search (rules, all_counted);
      goes_on = done.goes_on;
      steps = subst (λ (list : List Step). Completes list old new) same_steps done.steps;
      needed = tt;
      few_left = done.few_left;
      state_is = search (rules, all_counted, none_left);
      live_is = done.live_is;
      image = (
        side,
        generation,
        live,
        record {
          new_pages =
              subst (λ words. IsDrawn (other side) new (filled_set old.size (generation + 1) words))
              (sym no_words_left ∙ ap (λ changes. moved_words changes (state_of old).map) same)
              shows.new_pages;
          old_pages = shows.old_pages;
        },
      );
      wear = done.wear;
    }

pub clear_moves : (old new : Device) → Empties old new → Moves old each_forgotten new
clear_moves old new done = search (two_first, all_moves)

-- after a cut the map is as it was, or each address is forgotten, and nothing has a value
pub cut_clearing : (old new : Device) → IsCutClear old new
    → ((state_of new).map ≡ (state_of old).map)
    ⊎ (((state_of new).map ≡ changed_by each_forgotten (state_of old).map)
    × ((address : ℕ) → (state_of new).map address ≡ None))
cut_clearing old new cut = search (rules, none_left)
