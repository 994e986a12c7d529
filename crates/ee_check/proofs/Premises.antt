-- What laws of this crate need: without the named premise they would be false, and here is where.
use Rattle.std.proofs.Common.{List, [], ◌∷◌, arith}
use Rattle.ee_check.specs.declared.change.Change.{Change}
use Rattle.ee_check.specs.declared.change.Change.TheVariants.{Write}
use Rattle.ee_check.specs.Certificate.{Claim, IsTight}
use Rattle.ee_check.specs.Schedule.{Situation, IsProper}
use Rattle.ee_check.proofs.Bounds.{schedules_keep_within_lem, tight_is_met_lem}

-- a store of no slots
abbrev no_slots : Situation
no_slots = record { slots = 0; fill = 0; live = [] }

-- `some_is_tight` needs that the trace keeps within the slots: where there are none, a single write
-- has no tight certificate, since that would be met by a schedule
pub some_is_tight_needs_slots
    :
    ((start : Situation) (trace : List Change) → IsProper start
    → (claim : Claim) × IsTight start trace claim)
    → ⊥
some_is_tight_needs_slots law =
    let trace : List Change = Write 1 ∷ [] in
    let proper : IsProper no_slots = record { held = omega arith; fits = omega arith } in
    let tight = law no_slots trace proper in
    let met = tight_is_met_lem no_slots trace tight.0 proper tight.1 in
    let keeps = schedules_keep_within_lem no_slots trace met.0 proper met.1 in
    absurd (omega (arith, keeps.0))
