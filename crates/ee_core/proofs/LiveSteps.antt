-- The steps that mark a live set, whose valid marks a loop sets first.
use Rattle.ee_core.proofs.Words.{◌≡◌, ◌⊎◌, inl, inr, ℕ, ◌+◌, ◌-◌, ◌<◌, ◌≤◌, Bool, true, false, cond, List, [], ◌∷◌, ◌++◌, refl, sym, subst, ap, ◌∙◌, arith, suc, zero, flat_map}
use Rattle.ee_core.proofs.Sets.{Device, IsFormed, page_at, Step, is_blank, is_marked, is_written, marking, place_of_mark, word_in, first_page, other, Side, Active, Erasing, Valid}
use Rattle.ee_core.proofs.Calls.{IsLiveMarked, IsMarked, last_used}
use Rattle.std.specs.List.{range_with_len}
use Rattle.ee_core.specs.StepLists.{steps_to_finish, steps_to_mark, steps_to_mark_live, steps_to_retire}
use Rattle.ee_flash.specs.Taking.{Completes, StopsAmong}
use Rattle.ee_core.proofs.Taken.{completes_both, each_stops, in_set, mark_below, mark_words, retire_words, same_words, stops_first, stops_then}

abbrev valids : Device → ℕ → ℕ → List Step
valids old first count = flat_map (steps_to_mark old Valid) (range_with_len first count)

module _ (side : Side) (old mid new : Device) (first page last : ℕ)
    (first_is : first ≡ first_page old.size side) where
  whole : (n : ℕ) → first + last ≡ n
      → valids old first last ++ steps_to_mark old Active n ≡ steps_to_mark_live old side last
  whole n at =
      ap (λ k. valids old first last ++ steps_to_mark old Active k) (sym at)
      ∙ ap (λ k. valids old k last ++ steps_to_mark old Active (k + last)) first_is

  -- cut in a valid mark
  pub live_stops : first ≤ page → page < first + last
      → Completes (valids old first (page - first)) old mid
      → StopsAmong (steps_to_mark mid Valid page) mid new
      → StopsAmong (steps_to_mark_live old side last) old new
  live_stops from below so_far stops =
      subst (λ (list : List Step). StopsAmong list old new) (whole (first + last) refl)
      (stops_first (valids old first last) (steps_to_mark old Active (first + last))
      (each_stops (mark_words Valid) (mark_below Valid) old mid new first page from so_far last below
      stops))

  module _ (at : first + last ≡ page) (so_far : Completes (valids old first last) old mid) where
    active_is : steps_to_mark mid Active page ≡ steps_to_mark old Active page
    active_is =
        ap (λ words. mark_words Active words page)
        (same_words (mark_words Valid) (mark_below Valid) old mid new first page (omega (arith, at))
        (subst (λ n. Completes (valids old first n) old mid) (omega (arith, at)) so_far))

    -- or in the active one
    pub live_stops_then : StopsAmong (steps_to_mark mid Active page) mid new
        → StopsAmong (steps_to_mark_live old side last) old new
    live_stops_then stops =
        subst (λ (list : List Step). StopsAmong list old new) (whole page at)
        (stops_then (valids old first last) (steps_to_mark old Active page) so_far
        (subst (λ (list : List Step). StopsAmong list mid new) active_is stops))

    pub live_done : Completes (steps_to_mark mid Active page) mid new
        → Completes (steps_to_mark_live old side last) old new
    live_done done =
        subst (λ (list : List Step). Completes list old new) (whole page at)
        (completes_both (valids old first last) (steps_to_mark old Active page) so_far
        (subst (λ (list : List Step). Completes list mid new) active_is done))

module _ (side : Side) (old mid : Device) (first page : ℕ)
    (first_is : first ≡ first_page old.size side) (marked : IsLiveMarked old side) where
  -- where each mark is set, a valid one that a loop comes to is
  pub still_valid : first ≤ page → page < first + last_used old side
      → Completes (valids old first (page - first)) old mid → is_marked mid page Valid ≡ true
  still_valid from below so_far =
      ap (λ words. is_written (word_in words (place_of_mark Valid)))
      (same_words (mark_words Valid) (mark_below Valid) old mid mid first page from so_far)
      ∙ ap (λ n. is_marked old n Valid) (omega arith)
      ∙ marked.valid (page - first) (omega arith)

  -- and the active one behind them
  pub still_active : first + last_used old side ≡ page
      → Completes (valids old first (last_used old side)) old mid
      → is_marked mid page Active ≡ true
  still_active at so_far =
      ap (λ words. is_written (word_in words (place_of_mark Active)))
      (same_words (mark_words Valid) (mark_below Valid) old mid mid first page (omega (arith, at))
      (subst (λ n. Completes (valids old first n) old mid) (omega (arith, at)) so_far))
      ∙ ap (λ n. is_marked old n Active) (omega (arith, at, first_is))
      ∙ marked.active

-- ---- where each mark is set there is none to set

flat_none : (f : ℕ → List Step) (first count : ℕ) → ((k : ℕ) → k < count → f (first + k) ≡ [])
    → flat_map f (range_with_len first count) ≡ []
flat_none _ _ zero _ = refl
flat_none f first (suc count) none =
    let at : first + 0 ≡ first = omega arith in
    let head : f first ≡ [] = subst (λ n. f n ≡ []) at (none zero (omega arith)) in
    ap (λ list. list ++ flat_map f (range_with_len (first + 1) count)) head
    ∙ flat_none f (first + 1) count
    (λ k h. subst (λ n. f n ≡ []) (omega arith) (none (suc k) (omega arith)))

none_of_page : (blank : Bool) (list : List Step) → (blank ≡ true) ⊎ (list ≡ [])
    → cond blank [] list ≡ []
none_of_page true _ _ = refl
none_of_page false _ (inl is) = absurd (cc is)
none_of_page false _ (inr none) = none

pub no_marks : (device : Device) (side : Side) → IsLiveMarked device side
    → steps_to_mark_live device side (last_used device side) ≡ []
no_marks device side marked =
    let first = first_page device.size side in
    let last = last_used device side in
    ap (λ list. list ++ steps_to_mark device Active (first + last))
    (flat_none (steps_to_mark device Valid) first last
    (λ k h. ap (λ (b : Bool). cond b [] (marking (first + k) Valid ∷ [])) (marked.valid k h)))
    ∙ ap (λ (b : Bool). cond b [] (marking (first + last) Active ∷ [])) marked.active

module _ (device : Device) (side : Side) (formed : IsFormed device) (marked : IsMarked device side)
  where
    none_retired : (k : ℕ) → k < device.size.pages
        → retire_words (page_at device (first_page device.size (other side) + k))
        (first_page device.size (other side) + k)
        ≡ []
    none_retired k h =
        let page = first_page device.size (other side) + k in
        none_of_page (is_blank (page_at device page)) (mark_words Erasing (page_at device page) page)
        (elim (marked.old k h) [
          | inl blank ↦ inl blank
          | inr is ↦ inr (ap (λ (b : Bool). cond b [] (marking page Erasing ∷ [])) is)
        ])

    pub none_to_finish : steps_to_finish device side (last_used device side) ≡ []
    none_to_finish =
        let first = first_page device.size (other side) in
        ap (λ list. list ++ steps_to_retire device (other side)) (no_marks device side marked.live)
        ∙ sym
        (in_set (steps_to_mark device Erasing) device (other side) first device.size.pages formed refl
        refl)
        ∙ flat_none (λ page. retire_words (page_at device page) page) first device.size.pages
        none_retired
