-- The tight certificate: there is one where the trace keeps within the slots, there is no other,
-- and the store that transfers exactly when each slot is used meets it.
use Rattle.std.proofs.Common.{◌≡◌, ℕ, ◌+◌, ◌-◌, ◌≤◌, List, [], ◌∷◌, length, map, refl, sym, ◌∙◌, ap, subst, arith, inl, inr, rules}
use Rattle.std.proofs.lemmas.Bool.{cases_lt}
use Rattle.ee_check.specs.declared.change.Change.{Change}
use Rattle.ee_check.specs.declared.certificate.Stretch.{Stretch}
use Rattle.ee_check.specs.Live.{live_after_one, KeepsWithin}
use Rattle.ee_check.specs.Schedule.{Situation, Move, Copy, Append, Carry, IsAllowed, IsLate, after_move, after_moves, EachMove, changes_of, carried_at, cost}
use Rattle.ee_check.specs.Certificate.{Place, place_at, IsTightStretch, EachStretch}
use Rattle.ee_check.proofs.Sizes.{changed-le, remove_key-le}
use Rattle.ee_check.proofs.Dominance.{IsAt, at_next, count_now, end_from}

-- the store that transfers when each slot is used, in the middle of the trace: it uses what was
-- used at the place, and a slot for each change since
pub record IsLateAt (start : Situation) (trace : List Change) (s : Situation) (n : ℕ)
    (changes : List Change) (place : Place) : Type 0 where
  pub at : IsAt start trace s n changes
  pub behind : place.after ≤ n
  pub fill : s.fill ≡ place.used + (n - place.after)

-- no slot is used that isn't there, where the place is followed by tight stretches
pub place_fits : (start : Situation) (trace : List Change) (place : Place)
    (stretches : List Stretch)
    → EachStretch start trace IsTightStretch place stretches
    → end_from start trace place stretches ≤ start.slots → place.used ≤ start.slots
place_fits start trace place [] each fits = omega arith
place_fits start trace place (stretch ∷ stretches) each fits = search rules

-- one change more is appended, or carried
pub late_append : (start : Situation) (trace : List Change) (s : Situation) (n : ℕ)
    (change : Change) (changes : List Change) (place : Place)
    → IsLateAt start trace s n (change ∷ changes) place
    → IsLateAt start trace (after_move s (Append change)) (n + 1) changes place
late_append start trace s n change changes place late = record {
  at = at_next start trace s n (s.fill + 1) change changes late.at (let h =
      changed-le s.live change in
      let g = late.at.held in omega arith);
  behind = omega (arith, late.behind);
  fill = let a = late.behind in
      let b = late.fill in omega arith;
}

pub late_carry : (start : Situation) (trace : List Change) (s : Situation) (n to : ℕ)
    (change : Change) (changes : List Change) (place : Place)
    → to ≡ n + 1 → IsLateAt start trace s n (change ∷ changes) place
    → IsLateAt start trace (after_move s (Carry change)) (n + 1) changes (place_at start trace to)
late_carry start trace s n to change changes place e late =
    let here : IsAt start trace (after_move s (Carry change)) (n + 1) changes =
    at_next start trace s n (length (live_after_one s.live change)) change changes late.at
    (omega arith) in
    record {
      at = here;
      behind = omega arith;
      fill =
          let c =
          count_now start trace (after_move s (Carry change)) (n + 1) to changes here (sym e) in
          omega arith;
    }

-- what is live after a change has room, where the trace keeps within the slots
pub change_fits : (s : Situation) (change : Change) (changes : List Change)
    → length s.live ≤ s.slots → KeepsWithin s.slots s.live (change ∷ changes)
    → (length (live_after_one s.live change) ≤ s.slots)
    × KeepsWithin s.slots (live_after_one s.live change) changes
change_fits s change changes h1 h2 = search (rules, remove_key-le)

-- there is a tight certificate
pub tight_from : (start : Situation) (trace : List Change) (changes : List Change) (s : Situation)
    (n : ℕ) (place : Place)
    → IsLateAt start trace s n changes place → s.fill ≤ s.slots → KeepsWithin s.slots s.live changes
    → (stretches : List Stretch) × EachStretch start trace IsTightStretch place stretches
    × (end_from start trace place stretches ≤ start.slots)
tight_from start trace [] s n place late fits keeps = search rules
tight_from start trace (change ∷ changes) s n place late fits keeps =
    let next = change_fits s change changes (let h = late.at.held in omega arith) keeps in
    elim (cases_lt s.fill s.slots) [
      | inl free ↦ tight_from start trace changes (after_move s (Append change)) (n + 1) place
          (late_append start trace s n change changes place late) (omega arith) next.1
      | inr used ↦
          let stretch : Stretch = record { to = n + 1; from = place.used } in
          let here = late_carry start trace s n (n + 1) change changes place refl late in
          let more =
          tight_from start trace changes (after_move s (Carry change)) (n + 1)
          (place_at start trace (n + 1)) here next.0 next.1 in
          let a = late.fill in
          let b = late.at.slots in
          let c = late.behind in
          let d = late.at.rest in
          let tight : IsTightStretch start trace place stretch = record {
            forced =
                record {
                  rising = omega arith;
                  within = omega arith;
                  from_is = refl;
                  forced = omega arith;
                };
            tight = omega arith;
          } in
          (stretch ∷ more.0, (tight, more.1), more.2)
    ]

pub same_stretch : (stretch other : Stretch) → stretch.to ≡ other.to → stretch.from ≡ other.from
    → stretch ≡ other
same_stretch stretch other to from = search rules

-- and no other
pub one_tight : (start : Situation) (trace : List Change) (place : Place)
    (stretches others : List Stretch)
    → EachStretch start trace IsTightStretch place stretches
    → end_from start trace place stretches ≤ start.slots
    → EachStretch start trace IsTightStretch place others
    → end_from start trace place others ≤ start.slots → stretches ≡ others
one_tight start trace place [] [] each fits every suits = refl
one_tight start trace place [] (other ∷ others) each fits every suits = search rules
one_tight start trace place (stretch ∷ stretches) [] each fits every suits = search rules
one_tight start trace place (stretch ∷ stretches) (other ∷ others) each fits every suits =
    let a = each.0.tight in
    let b = each.0.forced.from_is in
    let c = each.0.forced.rising in
    let d = every.0.tight in
    let f = every.0.forced.from_is in
    let g = every.0.forced.rising in
    let to : stretch.to ≡ other.to = omega arith in
    let from : stretch.from ≡ other.from = omega arith in
    let here : EachStretch start trace IsTightStretch (place_at start trace stretch.to) others =
    subst (λ n. EachStretch start trace IsTightStretch (place_at start trace n) others) (sym to)
    every.1 in
    let there : end_from start trace (place_at start trace stretch.to) others ≤ start.slots =
    subst (λ n. end_from start trace (place_at start trace n) others ≤ start.slots) (sym to)
    suits in
    let rest : stretches ≡ others =
    one_tight start trace (place_at start trace stretch.to) stretches others each.1 fits here
    there in
    ap (λ s. s ∷ stretches) (same_stretch stretch other to from) ∙ ap (λ l. other ∷ l) rest

-- ---- the store that transfers when each slot is used

-- when it does, a tight stretch ends
ends_now : (start : Situation) (trace : List Change) (s : Situation) (n : ℕ) (changes : List Change)
    (place : Place) (stretch : Stretch)
    → IsLateAt start trace s n changes place → IsTightStretch start trace place stretch
    → s.fill ≡ s.slots → stretch.to ≡ n + 1
ends_now start trace s n changes place stretch late tight full = search rules

-- and it isn't the last change that has room
one_is_left : (start : Situation) (trace : List Change) (s : Situation) (n : ℕ) (change : Change)
    (changes : List Change) (place : Place)
    → IsLateAt start trace s n (change ∷ changes) place
    → end_from start trace place [] ≤ start.slots → s.fill ≡ s.slots → ⊥
one_is_left start trace s n change changes place late fits full = search rules

-- what it carries has room
carry_fits : (start : Situation) (trace : List Change) (s : Situation) (n : ℕ) (change : Change)
    (changes : List Change) (place : Place) (stretch : Stretch) (stretches : List Stretch)
    → IsLateAt start trace s n (change ∷ changes) place → stretch.to ≡ n + 1
    → EachStretch start trace IsTightStretch (place_at start trace stretch.to) stretches
    → end_from start trace (place_at start trace stretch.to) stretches ≤ start.slots
    → length (live_after_one s.live change) ≤ s.slots
carry_fits start trace s n change changes place stretch stretches late e each fits =
    search (rules, late_carry, place_fits)

carry_is_allowed : (s : Situation) (change : Change)
    → length (live_after_one s.live change) ≤ s.slots → IsAllowed s (Carry change)
carry_is_allowed s change h1 = search rules

-- it transfers where the tight stretches end
pub late_meets : (start : Situation) (trace : List Change) (moves : List Move) (s : Situation)
    (n : ℕ) (place : Place) (stretches : List Stretch)
    → IsLateAt start trace s n (changes_of moves) place → s.fill ≤ s.slots → EachMove IsLate s moves
    → EachStretch start trace IsTightStretch place stretches
    → end_from start trace place stretches ≤ start.slots
    → (carried_at n moves ≡ map (λ stretch. stretch.to) stretches)
    × ((after_moves s moves).fill ≡ end_from start trace place stretches)
    × (cost moves ≡ length stretches) × EachMove IsAllowed s moves
late_meets start trace [] s n place [] late bounded is_late each fits = search rules
late_meets start trace [] s n place (stretch ∷ stretches) late bounded is_late each fits =
    search rules
late_meets start trace (Copy ∷ moves) s n place stretches late bounded is_late each fits =
    absurd is_late.0
late_meets start trace (Append change ∷ moves) s n place stretches late bounded is_late each fits =
    let next = late_append start trace s n change (changes_of moves) place late in
    let more =
    late_meets start trace moves (after_move s (Append change)) (n + 1) place stretches next
    (omega (arith, is_late.0)) is_late.1 each fits in
    (more.0, more.1, more.2, (is_late.0, more.3))
late_meets start trace (Carry change ∷ moves) s n place [] late bounded is_late each fits =
    search (rules, one_is_left)
late_meets start trace (Carry change ∷ moves) s n place (stretch ∷ stretches) late bounded is_late
    each fits =
    let e : stretch.to ≡ n + 1 =
    ends_now start trace s n (change ∷ changes_of moves) place stretch late each.0 is_late.0 in
    let room : length (live_after_one s.live change) ≤ s.slots =
    carry_fits start trace s n change (changes_of moves) place stretch stretches late e each.1
    fits in
    let next = late_carry start trace s n stretch.to change (changes_of moves) place e late in
    let more =
    late_meets start trace moves (after_move s (Carry change)) (n + 1)
    (place_at start trace stretch.to) stretches next room is_late.1 each.1 fits in (
      ap (λ m. m ∷ carried_at (n + 1) moves) (sym e) ∙ ap (λ l. stretch.to ∷ l) more.0,
      more.1,
      omega (arith, more.2),
      (carry_is_allowed s change room, more.3),
    )

-- and it can be followed through the trace
pub late_goes : (start : Situation) (trace : List Change) (changes : List Change) (s : Situation)
    (n : ℕ) (place : Place) (stretches : List Stretch)
    → IsLateAt start trace s n changes place → s.fill ≤ s.slots
    → EachStretch start trace IsTightStretch place stretches
    → end_from start trace place stretches ≤ start.slots
    → (moves : List Move) × (changes_of moves ≡ changes) × EachMove IsLate s moves
late_goes start trace [] s n place stretches late bounded each fits = ([], refl, tt)
late_goes start trace (change ∷ changes) s n place [] late bounded each fits =
    elim (cases_lt s.fill s.slots) [
      | inl free ↦
          let more =
          late_goes start trace changes (after_move s (Append change)) (n + 1) place []
          (late_append start trace s n change changes place late) (omega arith) each fits in
          (Append change ∷ more.0, ap (λ l. change ∷ l) more.1, (free, more.2))
      | inr used ↦ absurd (one_is_left start trace s n change changes place late fits (omega arith))
    ]
late_goes start trace (change ∷ changes) s n place (stretch ∷ stretches) late bounded each fits =
    elim (cases_lt s.fill s.slots) [
      | inl free ↦
          let more =
          late_goes start trace changes (after_move s (Append change)) (n + 1) place
          (stretch ∷ stretches) (late_append start trace s n change changes place late)
          (omega arith) each fits in
          (Append change ∷ more.0, ap (λ l. change ∷ l) more.1, (free, more.2))
      | inr used ↦
          let full : s.fill ≡ s.slots = omega arith in
          let e : stretch.to ≡ n + 1 =
          ends_now start trace s n (change ∷ changes) place stretch late each.0 full in
          let room : length (live_after_one s.live change) ≤ s.slots =
          carry_fits start trace s n change changes place stretch stretches late e each.1
          fits in
          let next = late_carry start trace s n stretch.to change changes place e late in
          let more =
          late_goes start trace changes (after_move s (Carry change)) (n + 1)
          (place_at start trace stretch.to) stretches next room each.1 fits in
          (Carry change ∷ more.0, ap (λ l. change ∷ l) more.1, (full, more.2))
    ]
