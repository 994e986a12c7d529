-- What a change makes of what a trace starts from, as a store makes the change.
use Rattle.std.proofs.Common.{◌≡◌, ◌≢◌, ◌⊎◌, inl, inr, ℕ, ◌+◌, ◌≤◌, Option, Some, None, List, [], ◌∷◌, length, map, refl, sym, subst, ap, arith, cond, is_some, rules}
use Rattle.ee_flash.specs.Size.{Size, slot_count}
use Rattle.ee_codec.specs.Words.{IsAddress}
use Rattle.ee_pages.specs.Meaning.{Put, live_in}
use Rattle.ee_pages.specs.Meaning as meaning
use Rattle.ee_pages.proofs.Public.{change_counts}
use Rattle.ee_core.specs.State.{State, appended_state, moved_state}
use Rattle.ee_core.specs.Changes.{IsFull}
use Rattle.ee_check.specs.declared.change.Change.{Change}
use Rattle.ee_check.specs.declared.change.Change.TheVariants as changes
use Rattle.ee_check.specs.declared.certificate.Stretch.{Stretch}
use Rattle.ee_check.specs.Live.{live_after_one}
use Rattle.ee_check.specs.Schedule.{Append, Carry, IsProper, Situation, after_move}
use Rattle.ee_check.proofs.Public.{remove_key-le}
use Rattle.ee_plan.specs.Start.{AreLive, IsStartOf}
use Rattle.ee_plan.proofs.LiveLists.{live_after_put, live_count_is}

-- what leaves the map and the slots as they are leaves the start
pub start_stays : (slots : ℕ) (old new : State) (start : Situation) → IsStartOf slots old start
    → new.map ≡ old.map → new.fill ≡ old.fill → IsStartOf slots new start
start_stays slots old new start is map fill = search rules

-- how many are live after a write
grown : (slots : ℕ) (old : State) (start : Situation) (address value : ℕ) → IsAddress address
    → IsStartOf slots old start
    → length (live_after_one start.live (changes.Write address))
    ≡ length start.live + cond (is_some (old.map address)) 0 1
grown slots old start address value proper is =
    let after =
    live_count_is _ _ (live_after_put old.map start.live address value proper is.are_live) in
    let before = live_count_is old.map start.live is.are_live in
    let counts = change_counts (Put address value) old.map proper in
    omega arith

option_cases : (found : Option ℕ) → (found ≡ None) ⊎ ((value : ℕ) × (found ≡ Some value))
option_cases None = inl refl
option_cases (Some value) = inr (value, refl)

-- a write that isn't refused as full leaves no more live addresses than there are slots
pub write_fits : (slots : ℕ) (old : State) (start : Situation) (address value : ℕ)
    → IsAddress address → IsStartOf slots old start → IsProper start → ¬ IsFull slots old address
    → length (live_after_one start.live (changes.Write address)) ≤ start.slots
write_fits slots old start address value proper is fits free =
    let e = grown slots old start address value proper is in
    let counted = live_count_is old.map start.live is.are_live in
    let slots_are = is.slots_are in
    let held = fits.held in
    let within = fits.fits in
    elim (option_cases (old.map address)) [
      | inl none ↦
          let apart : live_in old.map ≢ slots =
          λ all. free (record { new_address = none; all_live = all }) in
          omega (arith, rw none at e)
      | inr some ↦ omega (arith, rw some.1 at e)
    ]

-- where it fits it isn't refused
pub not_full : (slots : ℕ) (old : State) (start : Situation) (address : ℕ) → IsAddress address
    → IsStartOf slots old start
    → length (live_after_one start.live (changes.Write address)) ≤ start.slots
    → ¬ IsFull slots old address
not_full slots old start address proper is fits = λ full.
    let e = grown slots old start address 0 proper is in
    let counted = live_count_is old.map start.live is.are_live in
    let new = full.new_address in
    let all = full.all_live in
    let s = is.slots_are in
    absurd (omega (arith, rw new at e))

start_appends : (slots : ℕ) (old : State) (start : Situation) (change : Change)
    (meant : meaning.Change)
    → AreLive (meaning.map_after meant old.map) (live_after_one start.live change)
    → IsStartOf slots old start
    → IsStartOf slots (appended_state meant old) (after_move start (Append change))
start_appends slots old start change meant live is = search rules

start_moves : (slots pages : ℕ) (old : State) (start : Situation) (change : Change)
    (meant : meaning.Change)
    → AreLive (meaning.map_after meant old.map) (live_after_one start.live change)
    → IsStartOf slots old start
    → IsStartOf slots (moved_state pages (meant ∷ []) old) (after_move start (Carry change))
start_moves slots pages old start change meant live is = search (rules, live_count_is)

-- a forgetting leaves no more live addresses than before
pub forgetting_fits : (start : Situation) (address : ℕ) → IsProper start
    → length (live_after_one start.live (changes.Forget address)) ≤ start.slots
forgetting_fits start address fits = search (rules, remove_key-le)

module _ (size : Size) where
  -- a step that changes neither the map nor the slots
  pub stays : (old mid : State) (start : Situation) → mid ≡ old
      → IsStartOf (slot_count size) old start → IsStartOf (slot_count size) mid start
  stays old mid start same is =
      start_stays (slot_count size) old mid start is (ap (λ s. s.map) same) (ap (λ s. s.fill) same)

  pub appends : (old mid : State) (start : Situation) (change : Change) (meant : meaning.Change)
      → mid ≡ appended_state meant old
      → AreLive (meaning.map_after meant old.map) (live_after_one start.live change)
      → IsStartOf (slot_count size) old start
      → IsStartOf (slot_count size) mid (after_move start (Append change))
  appends old mid start change meant is live from = search (rules, start_appends)

  pub moves_on : (old mid : State) (start : Situation) (change : Change) (meant : meaning.Change)
      → mid ≡ moved_state size.pages (meant ∷ []) old
      → AreLive (meaning.map_after meant old.map) (live_after_one start.live change)
      → IsStartOf (slot_count size) old start
      → IsStartOf (slot_count size) mid (after_move start (Carry change))
  moves_on old mid start change meant is live from =
      subst (λ s. IsStartOf (slot_count size) s (after_move start (Carry change))) (sym is)
      (start_moves (slot_count size) size.pages old start change meant live from)

-- as many ends as stretches
pub length_map : (stretches : List Stretch)
    → length (map (λ stretch. stretch.to) stretches) ≡ length stretches
length_map [] = refl
length_map (stretch ∷ stretches) = omega (arith, length_map stretches)
