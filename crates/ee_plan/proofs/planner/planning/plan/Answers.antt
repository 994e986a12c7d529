use Rattle.std.proofs.Common.{◌≡◌, ◌⊎◌, rules}
use Rattle.ee_text.proofs.Public.{error_passed_on, passed_on}
use Rattle.ee_plan.specs.declared.planner.planned.PlanFault.TheVariants.{NotFitting, Memory}
use Rattle.ee_plan.proofs.PlannerLemmas.Whole.{whole_certificate, whole_reached, whole_best, whole_breaks_nowhere, whole_keeps, memory_alone, first_named}
use Rattle.ee_plan.proofs.planner.planning.plan.Goals as goal

pub returns-in_err-store-clause-fits : goal.returns-in_err-store-clause-fits
returns-in_err-store-clause-fits g c = λ keeps.
    passed_on c.from_residual.result c.in_err-store.field-0.0 (λ fault. fault ≡ Memory)
    c.from_residual.ensures.1
    (memory_alone c.args.start.now c.args.trace.now c.in_err-store.field-0.0
    c.in_err-store.ensures.err keeps)

pub returns-in_err-store-clause-names : goal.returns-in_err-store-clause-names
returns-in_err-store-clause-names g c = λ n first.
    error_passed_on c.from_residual.result c.in_err-store.field-0.0 (λ plan. ⊥)
    (λ fault. (fault ≡ NotFitting n) ⊎ (fault ≡ Memory)) c.from_residual.ensures.1
    (first_named c.args.start.now c.args.trace.now c.in_err-store.field-0.0 n
    c.in_err-store.ensures.err first)

pub returns-clause-certificate : goal.returns-clause-certificate
returns-clause-certificate g c =
    whole_certificate c.args.start.now c.args.trace.now c.in_ok-store.store _
    c.in_ok-store.ensures.ok c.into_stretches-stretches.ensures
    record { slots = search rules; fill = search rules; live = search rules; writes = search rules }

pub returns-clause-reached : goal.returns-clause-reached
returns-clause-reached g c =
    whole_reached c.args.start.now c.args.trace.now c.in_ok-store.store _ _ (search rules)
    c.in_ok-store.ensures.ok (cc) (search rules fits 100 parts 0)

pub returns-clause-best : goal.returns-clause-best
returns-clause-best g c =
    whole_best c.args.start.now c.args.trace.now c.in_ok-store.store _ (search rules)
    c.in_ok-store.ensures.ok (search rules fits 100 parts 0)

pub returns-clause-keeps : goal.returns-clause-keeps
returns-clause-keeps g c =
    whole_keeps c.args.start.now c.args.trace.now c.in_ok-store.store c.in_ok-store.ensures.ok

pub returns-clause-names : goal.returns-clause-names
returns-clause-names g c =
    λ n first. whole_breaks_nowhere c.args.start.now c.args.trace.now c.in_ok-store.store n
    c.in_ok-store.ensures.ok first

pub returns-clause-planned : goal.returns-clause-planned
returns-clause-planned g c = search rules fits 100 parts 0
