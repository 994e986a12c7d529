use Rattle.std.proofs.Common.{◌≡◌, ◌⊎◌, rules, subst, sym}
use Rattle.ee_text.proofs.Public.{error_passed_on}
use Rattle.ee_check.specs.Schedule.{IsProper}
use Rattle.ee_interface.specs.declared.fault.Fault.TheVariants.{Memory}
use Rattle.ee_commands.specs.Planning.{IsTask}
use Rattle.ee_commands.proofs.Planned.{is_planned}
use Rattle.ee_commands.proofs.OneTask.{change_named, change_of_plan, first_of_plan, trace_renamed}
use Rattle.ee_commands.proofs.planning.planned.Goals as goal

pub returns-in_err-start-clause-names : goal.returns-in_err-start-clause-names
returns-in_err-start-clause-names g c = λ cause some applies.
    error_passed_on c.from_residual.result c.in_err-start.field-0.0 (λ certificate. ⊥)
    (λ fault. (fault ≡ cause) ⊎ (fault ≡ Memory)) c.from_residual.ensures.1
    (first_of_plan c.args.image.now c.args.script.now cause c.in_err-start.field-0.0 some applies
    c.in_err-start.ensures.fault)

pub returns-in-Ok-clause-names : goal.returns-in-Ok-clause-names
returns-in-Ok-clause-names g c = λ cause some applies.
    let task : IsTask c.args.image.now c.args.script.now c.in_ok-start.start c.deref.result.now =
    trace_renamed _ _ _ _ _ c.in_ok-start.ensures.task (search rules) in
    let named =
    change_of_plan c.args.image.now c.args.script.now c.in_ok-start.start c.deref.result.now
    cause some applies task in
    c.in-Ok.ensures.names named.n named.first

pub returns-in-Ok-clause-planned : goal.returns-in-Ok-clause-planned
returns-in-Ok-clause-planned g c =
    let task : IsTask c.args.image.now c.args.script.now c.in_ok-start.start c.deref.result.now =
    trace_renamed _ _ _ _ _ c.in_ok-start.ensures.task (search rules) in
    is_planned _ _ _ _ _ task (subst IsProper c.start.view_is c.start.invariant.proper)
    c.in-Ok.ensures.planned

pub returns-clause-names : goal.returns-clause-names
returns-clause-names g c = λ cause some applies.
    let task : IsTask c.args.image.now c.args.script.now c.in_ok-start.start c.deref.result.now =
    trace_renamed _ _ _ _ _ c.in_ok-start.ensures.task (search rules) in
    let named =
    change_of_plan c.args.image.now c.args.script.now c.in_ok-start.start c.deref.result.now
    cause some applies task in
    subst (λ told. (told ≡ cause) ⊎ (told ≡ Memory)) (sym c.fault_of.ensures)
    (change_named cause c.in-Err.fault named.n named.fault_is
    (c.in-Err.ensures.names named.n named.first))
