-- What the planner's walk through the trace comes to.
use Rattle.std.proofs.Common.{◌≡◌, ◌⊎◌, ℕ, ◌-◌, List, length, map, refl, ap, subst, arith, inl, inr, rules}
use Rattle.std.proofs.Math.Seq.{take-length}
use Rattle.ee_check.specs.declared.change.Change.{Change}
use Rattle.ee_check.specs.Live.{KeepsWithin}
use Rattle.ee_check.specs.Schedule.{Situation, IsProper}
use Rattle.ee_check.specs.Certificate.{Claim, IsCertificateHeader, IsCertificate, IsTight, used_at_end}
use Rattle.ee_check.proofs.Public.{tight_are_certificates_lem}
use Rattle.ee_plan.specs.Planner.Plan.{IsReached, IsBestThroughout, IsFirstNotFitting, IsPlanFault}
use Rattle.ee_plan.specs.Planner.LateStore.{LateStore, HasMade}
use Rattle.ee_plan.specs.declared.planner.planned.PlanFault.{PlanFault}
use Rattle.ee_plan.specs.declared.planner.planned.PlanFault.TheVariants.{NotFitting, Memory}
use Rattle.ee_plan.proofs.PlannerLemmas.Fitting.{none_breaks, one_first}
use Rattle.ee_plan.proofs.PlannerLemmas.Best.{tight_is_reached, best_throughout}

-- after all changes

pub whole_keeps : (start : Situation) (trace : List Change) (store : LateStore)
    → HasMade start trace (length trace) store → KeepsWithin start.slots start.live trace
whole_keeps start trace store made =
    subst (λ l. KeepsWithin start.slots start.live l) (take-length trace) made.keeps

pub used_now : (start : Situation) (trace : List Change) (store : LateStore)
    → HasMade start trace (length trace) store
    → used_at_end start trace store.stretches ≡ store.now.fill
used_now start trace store made = let a = made.fill in
    let b = made.from in omega arith

pub whole_tight : (start : Situation) (trace : List Change) (store : LateStore) (claim : Claim)
    → HasMade start trace (length trace) store → claim.stretches ≡ store.stretches
    → IsCertificateHeader start trace claim → IsTight start trace claim
whole_tight start trace store claim made e header = search (rules, used_now)

pub whole_certificate : (start : Situation) (trace : List Change) (store : LateStore)
    (claim : Claim)
    → HasMade start trace (length trace) store → claim.stretches ≡ store.stretches
    → IsCertificateHeader start trace claim → IsCertificate start trace claim
whole_certificate start trace store claim made e header =
    tight_are_certificates_lem start trace claim (whole_tight start trace store claim made e header)

-- the claim of its stretches
claim_after : Situation → List Change → LateStore → Claim
claim_after start trace store = record {
  slots = start.slots;
  fill = start.fill;
  live = length start.live;
  writes = length trace;
  stretches = store.stretches;
}

pub whole_reached : (start : Situation) (trace : List Change) (store : LateStore)
    (transfers free : ℕ)
    → IsProper start → HasMade start trace (length trace) store → transfers ≡ length store.stretches
    → free ≡ start.slots - store.now.fill → IsReached start trace transfers free
unfolding claim_after
whole_reached start trace store transfers free proper made counted left =
    let claim : Claim = claim_after start trace store in
    let header : IsCertificateHeader start trace claim =
    record { slots = refl; fill = refl; live = refl; writes = refl } in
    let reached =
    tight_is_reached start trace claim proper
    (whole_tight start trace store claim made refl header) in
    record {
      moves = reached.moves;
      schedule = reached.schedule;
      cost_is = let a = reached.cost_is in omega arith;
      free_is = let a = reached.free_is in
          let b = used_now start trace store made in omega arith;
    }

pub whole_best : (start : Situation) (trace : List Change) (store : LateStore) (moments : List ℕ)
    → IsProper start → HasMade start trace (length trace) store
    → moments ≡ map (λ stretch. stretch.to) store.stretches → IsBestThroughout start trace moments
unfolding claim_after
whole_best start trace store moments proper made positions =
    let claim : Claim = claim_after start trace store in
    let header : IsCertificateHeader start trace claim =
    record { slots = refl; fill = refl; live = refl; writes = refl } in
    best_throughout start trace claim moments proper
    (whole_tight start trace store claim made refl header) positions

pub whole_breaks_nowhere : (start : Situation) (trace : List Change) (store : LateStore) (n : ℕ)
    → HasMade start trace (length trace) store → IsFirstNotFitting start trace n → ⊥
whole_breaks_nowhere start trace store n made first =
    none_breaks start trace n (whole_keeps start trace store made) first

-- without a plan

pub memory_alone : (start : Situation) (trace : List Change) (fault : PlanFault)
    → IsPlanFault start trace fault → KeepsWithin start.slots start.live trace → fault ≡ Memory
memory_alone start trace fault h1 h2 = search (rules, none_breaks)

pub first_named : (start : Situation) (trace : List Change) (fault : PlanFault) (n : ℕ)
    → IsPlanFault start trace fault → IsFirstNotFitting start trace n
    → (fault ≡ NotFitting n) ⊎ (fault ≡ Memory)
first_named start trace (NotFitting m) n why first =
    inl (ap NotFitting (one_first start trace m n why first))
first_named start trace Memory n why first = inr refl
