-- What a trace that is made many times over demands of a set that starts empty.
use Rattle.std.specs.Prelude.{◌≡◌, ℕ, ◌*◌, ◌^◌, ◌≤◌, List, [], ◌++◌, length, zero, suc}
use Rattle.ee_check.specs.declared.change.Change.{Change}
use Rattle.ee_check.specs.Live.{KeepsWithin}
use Rattle.ee_check.specs.Schedule.{Situation, Move, IsSchedule, cost}
use Rattle.ee_check.specs.Certificate.{Claim, IsTight}
use Rattle.ee_plan.specs.declared.planner.demand.Demand.{Demand}
use Rattle.ee_plan.specs.declared.planner.demand.Demand.TheVariants.{Transfers, NotFitting}
use Rattle.ee_plan.specs.declared.planner.demand.RoundsFault.{RoundsFault}
use Rattle.ee_plan.specs.declared.planner.demand.RoundsFault.TheVariants.{TooMany, Memory}
use Rattle.ee_plan.specs.Planner.Plan.{IsFirstNotFitting}

-- the trace written out so many times, one after another
abbrev pub repeated_trace : ℕ → List Change → List Change
repeated_trace zero trace = []
repeated_trace (suc more) trace = trace ++ repeated_trace more trace

-- a set of so many slots of which none is used
abbrev pub unused_situation : ℕ → Situation
unused_situation slots = record { slots = slots; fill = 0; live = [] }

-- The tight certificate of the trace has so many stretches; some schedule transfers as often,
-- and none less often.
pub record IsFewest (start : Situation) (trace : List Change) (transfers : ℕ) : Type 0 where
  pub claim : Claim
  pub tight : IsTight start trace claim
  pub stretches : transfers ≡ length claim.stretches
  pub reached : (moves : List Move) × IsSchedule start trace moves × (cost moves ≡ transfers)
  pub fewest : (moves : List Move) → IsSchedule start trace moves → transfers ≤ cost moves

-- the trace fits and takes so many transfers at least, or this change of it is the
-- first that doesn't fit
abbrev pub IsDemand : Situation → List Change → Demand → Type 0
IsDemand start trace (Transfers transfers) =
    KeepsWithin start.slots start.live trace × IsFewest start trace transfers
IsDemand start trace (NotFitting n) = IsFirstNotFitting start trace n

-- why a trace made so often isn't counted: it has too many changes in all, or memory ran out
abbrev pub IsRoundsFault : ℕ → List Change → RoundsFault → Type 0
IsRoundsFault runs trace TooMany = 2 ^ 63 ≤ runs * length trace
IsRoundsFault runs trace Memory = Unit {0}
