-- A schedule reaches a tight certificate and none betters it, and so it is wherever the
-- trace is broken off.
use Rattle.std.proofs.Common.{◌≡◌, ℕ, List, length, map, ap, ◌∙◌, rules}
use Rattle.ee_check.specs.declared.change.Change.{Change}
use Rattle.ee_check.specs.Schedule.{Situation, IsProper}
use Rattle.ee_check.specs.Certificate.{Claim, IsTight, room}
use Rattle.ee_check.proofs.Public.{certificates_dominate_lem, tight_are_certificates_lem, tight_is_met_lem}
use Rattle.ee_plan.specs.Planner.Plan.{IsReached, NoneIsBetter, IsBest, IsBestThroughout, moments_within}
use Rattle.ee_plan.proofs.PlannerLemmas.Prefixes.{claim_within, positions_within, prefix_is_tight}

pub tight_is_reached : (start : Situation) (trace : List Change) (claim : Claim) → IsProper start
    → IsTight start trace claim
    → IsReached start trace (length claim.stretches) (room start trace claim.stretches)
tight_is_reached start trace claim proper tight = search (rules, tight_is_met_lem)

none_betters_tight : (start : Situation) (trace : List Change) (claim : Claim) → IsProper start
    → IsTight start trace claim
    → NoneIsBetter start trace (length claim.stretches) (room start trace claim.stretches)
none_betters_tight start trace claim proper tight =
    search (rules, certificates_dominate_lem, tight_are_certificates_lem)

best : (start : Situation) (trace : List Change) (claim : Claim) (moments : List ℕ) → IsProper start
    → IsTight start trace claim → moments ≡ map (λ stretch. stretch.to) claim.stretches
    → IsBest start trace moments
best start trace claim moments proper tight positions =
    search (rules, none_betters_tight, tight_is_reached)

pub best_throughout : (start : Situation) (trace : List Change) (claim : Claim) (moments : List ℕ)
    → IsProper start → IsTight start trace claim
    → moments ≡ map (λ stretch. stretch.to) claim.stretches → IsBestThroughout start trace moments
best_throughout start trace claim moments proper tight positions = λ prefix rest is.
    best start prefix (claim_within prefix claim) (moments_within (length prefix) moments) proper
    (prefix_is_tight start trace prefix rest claim is tight)
    (ap (moments_within (length prefix)) positions
    ∙ positions_within (length prefix) claim.stretches)
