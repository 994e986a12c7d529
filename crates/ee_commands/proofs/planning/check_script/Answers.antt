use Rattle.std.proofs.Common.{◌≡◌, ◌⊎◌, rules}
use Rattle.ee_text.proofs.Public.{error_passed_on, passed_on}
use Rattle.ee_check.specs.Certificate.{claim_of}
use Rattle.ee_interface.specs.declared.fault.Fault.TheVariants.{Memory}
use Rattle.ee_interface.specs.Fault.{fault_of_certificate, fault_of_check}
use Rattle.ee_commands.specs.Planning.{IsCheckingFault, IsTask}
use Rattle.ee_commands.proofs.OneTask.{cause_named, cause_of_check, first_of_check, later_of_check, not_proved, trace_renamed, text_of_check}
use Rattle.ee_commands.proofs.planning.check_script.Goals as goal

pub returns-in_err-start-clause-names : goal.returns-in_err-start-clause-names
returns-in_err-start-clause-names g c = λ cause some applies.
    error_passed_on c.from_residual.result c.in_err-start.field-0.0 (λ text. ⊥)
    (λ fault. (fault ≡ cause) ⊎ (fault ≡ Memory)) c.from_residual.ensures.1
    (first_of_check c.args.image.now c.args.script.now c.args.certificate.now cause
    c.in_err-start.field-0.0 some applies c.in_err-start.ensures.fault)

pub returns-in_err-certificate-clause-names : goal.returns-in_err-certificate-clause-names
returns-in_err-certificate-clause-names g c = λ cause some applies.
    let later =
    later_of_check c.args.image.now c.args.script.now c.args.certificate.now c.in_ok-start.start
    c.in_ok-start.trace.items cause some applies c.in_ok-start.ensures.task in
    error_passed_on c.from_residual-in_err-certificate.result
    (fault_of_certificate c.in_err-certificate.field-0.0) (λ text. ⊥)
    (λ fault. (fault ≡ cause) ⊎ (fault ≡ Memory)) c.from_residual-in_err-certificate.ensures.1
    (text_of_check c.in_ok-start.start c.in_ok-start.trace.items c.args.certificate.now cause
    c.in_err-certificate.field-0.0 some later c.in_err-certificate.ensures.fault)

pub returns-in_err-transfers-clause-fault : goal.returns-in_err-transfers-clause-fault
returns-in_err-transfers-clause-fault g c =
    let task : IsTask c.args.image.now c.args.script.now c.in_ok-start.start c.deref.result.now =
    trace_renamed _ _ _ _ _ c.in_ok-start.ensures.task (search rules) in
    passed_on c.from_residual-in_err-transfers.result (fault_of_check c.in_err-transfers.field-0.0)
    (IsCheckingFault c.args.image.now c.args.script.now c.args.certificate.now)
    c.from_residual-in_err-transfers.ensures.1
    (not_proved c.args.image.now c.args.script.now c.args.certificate.now c.in_ok-start.start
    c.deref.result.now (claim_of c.in_ok-certificate.certificate) c.in_err-transfers.field-0.0
    task c.in_ok-certificate.ensures.found c.in_err-transfers.ensures.refused)

pub returns-in_err-transfers-clause-names : goal.returns-in_err-transfers-clause-names
returns-in_err-transfers-clause-names g c = λ cause some applies.
    let task : IsTask c.args.image.now c.args.script.now c.in_ok-start.start c.deref.result.now =
    trace_renamed _ _ _ _ _ c.in_ok-start.ensures.task (search rules) in
    let later =
    later_of_check c.args.image.now c.args.script.now c.args.certificate.now c.in_ok-start.start
    c.deref.result.now cause some applies task in
    let named =
    cause_of_check c.in_ok-start.start c.deref.result.now c.args.certificate.now _ cause some
    later c.in_ok-certificate.ensures.found in
    error_passed_on c.from_residual-in_err-transfers.result
    (fault_of_check c.in_err-transfers.field-0.0) (λ text. ⊥)
    (λ fault. (fault ≡ cause) ⊎ (fault ≡ Memory)) c.from_residual-in_err-transfers.ensures.1
    (cause_named cause c.in_err-transfers.field-0.0 named.cause named.fault_is
    (c.in_err-transfers.ensures.names named.cause named.applies))

pub returns-clause-names : goal.returns-clause-names
returns-clause-names g c = λ cause some applies.
    let task : IsTask c.args.image.now c.args.script.now c.in_ok-start.start c.deref.result.now =
    trace_renamed _ _ _ _ _ c.in_ok-start.ensures.task (search rules) in
    let later =
    later_of_check c.args.image.now c.args.script.now c.args.certificate.now c.in_ok-start.start
    c.deref.result.now cause some applies task in
    let named =
    cause_of_check c.in_ok-start.start c.deref.result.now c.args.certificate.now _ cause some
    later c.in_ok-certificate.ensures.found in
    c.in_ok-transfers.ensures.names named.cause named.applies
