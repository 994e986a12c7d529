-- What the core of the proof gives: the laws of certificates.
use Rattle.std.proofs.Common.{ℕ, ◌≡◌, ◌⊎◌, ◌+◌, ◌<◌, ◌≤◌, List, [], ◌∷◌, length, map, refl, sym, ap, subst, arith, inl, inr, rules}
use Rattle.ee_check.specs.declared.change.Change.{Change}
use Rattle.ee_check.specs.declared.change.Change.TheVariants.{Write, Forget}
use Rattle.ee_check.specs.declared.certificate.Stretch.{Stretch}
use Rattle.ee_check.specs.Live.{live_count, KeepsWithin}
use Rattle.ee_check.specs.Schedule.{Situation, IsProper, Move, IsSchedule, EachMove, IsLate, after_moves, changes_of, carried_at, cost, Copy, Append, Carry, IsAllowed, after_move}
use Rattle.ee_check.specs.Certificate.{Claim, Place, first_place, place_at, IsForced, IsTightStretch, EachStretch, IsCertificate, IsTight, used_at_end}
use Rattle.ee_check.proofs.Sizes.{changed-le}
use Rattle.ee_check.proofs.Dominance.{IsAt, IsBound, EndsLater, dominance}
use Rattle.ee_check.proofs.Tight.{IsLateAt, tight_from, one_tight, late_meets, late_goes}

-- ---- before the trace

pub at_start : (start : Situation) (trace : List Change) → IsProper start
    → IsAt start trace start 0 trace
at_start start trace proper = record {
  slots = refl;
  rest = omega arith;
  counts = λ i. let e : 0 + i ≡ i = omega arith in ap (λ n. live_count start.live trace n) e;
  held = proper.held;
}

pub late_at_start : (start : Situation) (trace : List Change) → IsProper start
    → IsLateAt start trace start 0 trace (first_place start)
late_at_start start trace proper =
    record { at = at_start start trace proper; behind = omega arith; fill = omega arith }

first_later : (start : Situation) (trace : List Change) (stretches : List Stretch)
    → EachStretch start trace IsForced (first_place start) stretches → EndsLater 0 stretches
first_later start trace stretches h1 = search rules

-- ---- every schedule

pub certificates_dominate_lem : (start : Situation) (trace : List Change) (claim : Claim)
    (moves : List Move)
    → IsProper start → IsCertificate start trace claim → IsSchedule start trace moves
    → (length claim.stretches < cost moves)
    ⊎ ((cost moves ≡ length claim.stretches)
    × (used_at_end start trace claim.stretches ≤ (after_moves start moves).fill))
certificates_dominate_lem start trace claim moves proper certificate schedule =
    let bound : IsBound start trace (length claim.stretches)
    (used_at_end start trace claim.stretches) start 0 0 =
    record {
      passed = 0;
      place = first_place start;
      stretches = claim.stretches;
      all = omega arith;
      each = certificate.stretches;
      behind = omega arith;
      later = first_later start trace claim.stretches certificate.stretches;
      ahead = inr (refl, omega arith);
      end = refl;
    } in
    let at : IsAt start trace start 0 (changes_of moves) =
    subst (λ changes. IsAt start trace start 0 changes) (sym schedule.changes)
    (at_start start trace proper) in
    dominance start trace (length claim.stretches) (used_at_end start trace claim.stretches) moves
    start 0 0 (cost moves) at bound schedule.allowed (omega arith)

pub certificates_bound_schedules_lem : (start : Situation) (trace : List Change) (claim : Claim)
    (moves : List Move)
    → IsProper start → IsCertificate start trace claim → IsSchedule start trace moves
    → length claim.stretches ≤ cost moves
certificates_bound_schedules_lem start trace claim moves proper certificate schedule =
    elim (certificates_dominate_lem start trace claim moves proper certificate schedule)
    [ inl more ↦ omega arith | inr same ↦ omega arith ]

-- what a schedule goes through keeps within the slots
keeps_along : (slots : ℕ) (moves : List Move) (s : Situation) → s.slots ≡ slots
    → length s.live ≤ s.fill → EachMove IsAllowed s moves
    → KeepsWithin slots s.live (changes_of moves)
keeps_along slots [] s same held allowed = tt
keeps_along slots (Copy ∷ moves) s same held allowed =
    keeps_along slots moves (after_move s Copy) same (omega arith) allowed.1
keeps_along slots (Append (Write address) ∷ moves) s same held allowed =
    let grown = changed-le s.live (Write address) in
    let free = allowed.0 in (
      omega arith,
      keeps_along slots moves (after_move s (Append (Write address))) same (omega arith)
          allowed.1,
    )
keeps_along slots (Append (Forget address) ∷ moves) s same held allowed =
    let grown = changed-le s.live (Forget address) in
    keeps_along slots moves (after_move s (Append (Forget address))) same (omega arith) allowed.1
keeps_along slots (Carry (Write address) ∷ moves) s same held allowed =
    search (
      rules,
      (keeps_along slots moves (after_move s (Carry (Write address))) same (omega arith)
          allowed.1),
    )
keeps_along slots (Carry (Forget address) ∷ moves) s same held allowed =
    search (
      rules,
      (keeps_along slots moves (after_move s (Carry (Forget address))) same (omega arith)
          allowed.1),
    )

pub schedules_keep_within_lem : (start : Situation) (trace : List Change) (moves : List Move)
    → IsProper start → IsSchedule start trace moves → KeepsWithin start.slots start.live trace
schedules_keep_within_lem start trace moves proper schedule = search (rules, keeps_along)

-- ---- the tight certificate

forced_of_tight : (start : Situation) (trace : List Change) (place : Place)
    (stretches : List Stretch)
    → EachStretch start trace IsTightStretch place stretches
    → EachStretch start trace IsForced place stretches
forced_of_tight start trace place [] each = tt
forced_of_tight start trace place (stretch ∷ stretches) each =
    (each.0.forced, forced_of_tight start trace (place_at start trace stretch.to) stretches each.1)

pub tight_are_certificates_lem : (start : Situation) (trace : List Change) (claim : Claim)
    → IsTight start trace claim → IsCertificate start trace claim
tight_are_certificates_lem start trace claim tight = record {
  header = tight.header;
  stretches = forced_of_tight start trace (first_place start) claim.stretches tight.stretches;
}

pub same_claim : (claim other : Claim) → claim.slots ≡ other.slots → claim.fill ≡ other.fill
    → claim.live ≡ other.live → claim.writes ≡ other.writes → claim.stretches ≡ other.stretches
    → claim ≡ other
same_claim claim other slots fill live writes stretches = search rules

pub one_is_tight_lem : (start : Situation) (trace : List Change) (claim other : Claim)
    → IsTight start trace claim → IsTight start trace other → claim ≡ other
one_is_tight_lem start trace claim other tight too = search (rules, same_claim, one_tight)

pub some_is_tight_lem : (start : Situation) (trace : List Change) → IsProper start
    → KeepsWithin start.slots start.live trace → (claim : Claim) × IsTight start trace claim
some_is_tight_lem start trace proper keeps =
    let found =
    tight_from start trace trace start 0 (first_place start) (late_at_start start trace proper)
    proper.fits keeps in
    let claim : Claim = record {
      slots = start.slots;
      fill = start.fill;
      live = length start.live;
      writes = length trace;
      stretches = found.0;
    } in (
      claim,
      record {
        header = record { slots = refl; fill = refl; live = refl; writes = refl };
        stretches = found.1;
        fits = found.2;
      },
    )

-- the moves of the store that transfers exactly when each slot is used
pub record LateMoves (start : Situation) (trace : List Change) (claim : Claim) : Type 0 where
  pub moves : List Move
  pub changes_are : changes_of moves ≡ trace
  pub late : EachMove IsLate start moves
  pub cost_is : cost moves ≡ length claim.stretches
  pub allowed : EachMove IsAllowed start moves
  pub fill_is : (after_moves start moves).fill ≡ used_at_end start trace claim.stretches

pub late_moves : (start : Situation) (trace : List Change) (claim : Claim) → IsProper start
    → IsTight start trace claim → LateMoves start trace claim
late_moves start trace claim proper tight =
    let late = late_at_start start trace proper in
    let went =
    late_goes start trace trace start 0 (first_place start) claim.stretches late proper.fits
    tight.stretches tight.fits in
    let here : IsLateAt start trace start 0 (changes_of went.0) (first_place start) =
    subst (λ changes. IsLateAt start trace start 0 changes (first_place start)) (sym went.1) late in
    let met =
    late_meets start trace went.0 start 0 (first_place start) claim.stretches here proper.fits
    went.2 tight.stretches tight.fits in
    record {
      moves = went.0;
      changes_are = went.1;
      late = went.2;
      cost_is = met.2;
      allowed = met.3;
      fill_is = met.1;
    }

pub tight_is_met_lem : (start : Situation) (trace : List Change) (claim : Claim) → IsProper start
    → IsTight start trace claim
    → (moves : List Move) × IsSchedule start trace moves × (cost moves ≡ length claim.stretches)
    × ((after_moves start moves).fill ≡ used_at_end start trace claim.stretches)
tight_is_met_lem start trace claim proper tight =
    let late = late_moves start trace claim proper tight in (
      late.moves,
      record { allowed = late.allowed; changes = late.changes_are },
      late.cost_is,
      late.fill_is,
    )

pub late_stores_meet_it_lem : (start : Situation) (trace : List Change) (claim : Claim)
    (moves : List Move)
    → IsProper start → IsTight start trace claim → changes_of moves ≡ trace
    → EachMove IsLate start moves
    → (carried_at 0 moves ≡ map (λ stretch. stretch.to) claim.stretches)
    × ((after_moves start moves).fill ≡ used_at_end start trace claim.stretches)
late_stores_meet_it_lem start trace claim moves proper tight changes is_late =
    let here : IsLateAt start trace start 0 (changes_of moves) (first_place start) =
    subst (λ l. IsLateAt start trace start 0 l (first_place start)) (sym changes)
    (late_at_start start trace proper) in
    let met =
    late_meets start trace moves start 0 (first_place start) claim.stretches here proper.fits
    is_late tight.stretches tight.fits in
    (met.0, met.1)
