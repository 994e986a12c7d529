-- What a plan says of a start and a trace, and when there is none.
use Rattle.std.specs.Prelude.{◌≡◌, ◌⊎◌, ℕ, ◌+◌, ◌-◌, ◌<◌, ◌≤◌, List, ◌∷◌, ◌++◌, filter, length, map, nat_le}
use Rattle.ee_check.specs.declared.change.Change.{Change}
use Rattle.ee_check.specs.declared.change.Change.TheVariants.{Write}
use Rattle.ee_check.specs.Live.{live_after_one, live_after, KeepsWithin}
use Rattle.ee_check.specs.Schedule.{Situation, Move, IsSchedule, after_moves, cost}
use Rattle.ee_check.specs.Certificate.{Claim, IsTight, claim_of, room}
use Rattle.ee_plan.specs.declared.planner.planned.Plan.{Plan}
use Rattle.ee_plan.specs.declared.planner.planned.PlanFault.{PlanFault}
use Rattle.ee_plan.specs.declared.planner.planned.PlanFault.TheVariants.{NotFitting, Memory}

-- the certificate is the tight one, and the rest of the plan is read off it
pub record IsPlan {A : Type 0} (start : Situation) (trace : List Change) (plan : Plan A)
    : Type 0 where
  pub tight : IsTight start trace (claim_of plan.certificate)
  pub transfers : plan.transfers ≡ length plan.certificate.stretches.items
  pub moments : plan.moments.items ≡ map (λ stretch. stretch.to) plan.certificate.stretches.items
  pub room : plan.room ≡ room start trace plan.certificate.stretches.items

-- some schedule of the trace makes so many transfers and ends with so many slots free
pub record IsReached (start : Situation) (trace : List Change) (transfers free : ℕ) : Type 0 where
  pub moves : List Move
  pub schedule : IsSchedule start trace moves
  pub cost_is : cost moves ≡ transfers
  pub free_is : (after_moves start moves).fill + free ≡ start.slots

-- each schedule of the trace makes more transfers, or as many, and ends with no more slots free
abbrev pub NoneIsBetter : Situation → List Change → ℕ → ℕ → Type 0
NoneIsBetter start trace transfers free = (moves : List Move) → IsSchedule start trace moves
    → (transfers < cost moves)
    ⊎ ((cost moves ≡ transfers) × (start.slots - free ≤ (after_moves start moves).fill))

-- these are the changes at which the stretches of a tight certificate of the trace end, which a
-- schedule reaches and none betters
pub record IsBest (start : Situation) (trace : List Change) (moments : List ℕ) : Type 0 where
  pub claim : Claim
  pub tight : IsTight start trace claim
  pub positions : moments ≡ map (λ stretch. stretch.to) claim.stretches
  pub reached : IsReached start trace (length claim.stretches) (room start trace claim.stretches)
  pub none_better : NoneIsBetter start trace (length claim.stretches)
      (room start trace claim.stretches)

-- those of the first n changes
abbrev pub moments_within : ℕ → List ℕ → List ℕ
moments_within n moments = filter (λ moment. nat_le moment n) moments

-- Wherever the trace is broken off, the moments so far are so of what was made of it.
abbrev pub IsBestThroughout : Situation → List Change → List ℕ → Type 0
IsBestThroughout start trace moments = (prefix rest : List Change) → trace ≡ prefix ++ rest
    → IsBest start prefix (moments_within (length prefix) moments)

-- Change n, counted from 1, is the first that doesn't fit: a write that makes more addresses live
-- than there are slots.
pub record IsFirstNotFitting (start : Situation) (trace : List Change) (n : ℕ) : Type 0 where
  pub before : List Change
  pub address : ℕ
  pub rest : List Change
  pub trace_is : trace ≡ before ++ Write address ∷ rest
  pub keeps : KeepsWithin start.slots start.live before
  pub breaks : start.slots < length (live_after_one (live_after start.live before) (Write address))
  pub number : n ≡ length before + 1

-- why there is no plan; want of memory has no cause in the trace
abbrev pub IsPlanFault : Situation → List Change → PlanFault → Type 0
IsPlanFault start trace (NotFitting n) = IsFirstNotFitting start trace n
IsPlanFault start trace Memory = Unit {0}
