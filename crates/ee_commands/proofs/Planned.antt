-- The certificate of a task's plan is what is planned for it.
use Rattle.std.proofs.Common.{ℕ, List}
use Rattle.ee_check.specs.declared.change.Change.{Change}
use Rattle.ee_check.specs.Certificate.{claim_of}
use Rattle.ee_check.specs.Schedule.{IsProper, Situation}
use Rattle.ee_check.proofs.Public.{certificates_bound_schedules_lem, tight_are_certificates_lem, tight_is_met_lem}
use Rattle.ee_plan.specs.declared.planner.planned.Plan.{Plan}
use Rattle.ee_plan.specs.Planner.Plan.{IsPlan}
use Rattle.ee_commands.specs.Planning.{IsPlannedClaim, IsTask}

pub is_planned : {A : Type 0} (image text : List ℕ) (start : Situation)
    (trace : List Change) (plan : Plan A)
    → IsTask image text start trace → IsProper start → IsPlan start trace plan
    → IsPlannedClaim image text (claim_of plan.certificate)
is_planned image text start trace plan task proper is =
    let claim = claim_of plan.certificate in
    let certificate = tight_are_certificates_lem start trace claim is.tight in
    let met = tight_is_met_lem start trace claim proper is.tight in
    record {
      start = start;
      trace = trace;
      task = task;
      tight = is.tight;
      certificate = certificate;
      reached = (met.0, met.1, met.2);
      fewest =
          λ schedule scheduled.
          certificates_bound_schedules_lem start trace claim schedule proper certificate scheduled;
    }
