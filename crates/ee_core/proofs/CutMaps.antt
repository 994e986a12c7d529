-- What a cut in a change leaves of the map.
use Rattle.ee_core.proofs.Words.{◌⊎◌, inl, inr, ◌≤◌, length, filter, ◌≡◌, ℕ, Option, Some, None, List, [], ◌∷◌, ap, arith, count_by-le-length, length-filter, rules}
use Rattle.ee_core.proofs.Sets.{Device, IsFormed, IsCut, length-slots, Change, changed_by, map_after, is_written, live_of, set_of, slots_of, Side}
use Rattle.ee_core.proofs.Calls.{IsCutAppend, IsCutChange, IsCutMaking, IsCutMove, State, capacity, state_in, state_of}

fill_in : (device : Device) (live : Option (Side × ℕ)) → IsFormed device
    → (state_in device live).fill ≤ capacity device
fill_in _ None _ = omega arith
fill_in device (Some live) formed =
    let slots = slots_of (set_of live.0 device) in
    let whole = length-slots live.0 _ formed in
    let some : length (filter is_written slots) ≤ length slots =
    rw (length-filter is_written _) (count_by-le-length is_written _) in
    omega arith

-- no more slots are used than there are
pub fill_within : (device : Device) → IsFormed device → (state_of device).fill ≤ capacity device
fill_within device formed = fill_in device (live_of device) formed

cut_cases : (old new : Device) (change : Change) → IsCutChange old change new
    → IsCutAppend (state_of old) change (state_of new)
    ⊎ IsCutMove old.size.pages old.size.pages (state_of old) (change ∷ []) (state_of new)
cut_cases old _ _ cut = search rules

cut_state : (old new : State) (pages : ℕ) (change : Change)
    → IsCutAppend old change new ⊎ IsCutMove pages pages old (change ∷ []) new
    → (new.map ≡ old.map) ⊎ (new.map ≡ map_after change old.map)
cut_state _ _ _ _ (inl (inl e)) = inl (ap (λ s. s.map) e)
cut_state _ _ _ _ (inl (inr (inl e))) = inl (ap (λ s. s.map) e)
cut_state _ _ _ _ (inl (inr (inr e))) = inr (ap (λ s. s.map) e)
cut_state _ _ _ _ (inr (inl e)) = inl (ap (λ s. s.map) e.2)
cut_state _ _ _ _ (inr (inr e)) = inr (ap (λ s. s.map) e)

-- after a cut the map is as it was or has the change
pub cut_map : (old new : Device) (change : Change) → IsCutChange old change new
    → ((state_of new).map ≡ (state_of old).map)
    ⊎ ((state_of new).map ≡ map_after change (state_of old).map)
cut_map old new change cut = search (cut_state, cut_cases)

moved_or_not : (old new : State) (pages left : ℕ) (changes : List Change)
    → IsCutMove pages left old changes new
    → (new.map ≡ old.map) ⊎ (new.map ≡ changed_by changes old.map)
moved_or_not _ _ _ _ _ (inl e) = inl (ap (λ s. s.map) e.2)
moved_or_not _ _ _ _ _ (inr e) = inr (ap (λ s. s.map) e)

-- power was cut in making changes, and the map is as it was or has all of them
pub cut_making : (old new : Device) (changes : List Change) → IsCutMaking old changes new
    → IsCut old new
    × (((state_of new).map ≡ (state_of old).map)
    ⊎ ((state_of new).map ≡ changed_by changes (state_of old).map))
cut_making _ _ [] cut = absurd cut
cut_making old new (change ∷ []) cut = (cut.cut, cut_map old new change cut)
cut_making old new (first ∷ second ∷ changes) cut = (
  cut.cut,
  moved_or_not (state_of old) (state_of new) old.size.pages _ (first ∷ second ∷ changes)
      cut.state_is,
)
