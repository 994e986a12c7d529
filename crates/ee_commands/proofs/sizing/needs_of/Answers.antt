use Rattle.std.proofs.Common.{◌≡◌, ◌⊎◌}
use Rattle.ee_text.proofs.Public.{error_passed_on}
use Rattle.ee_interface.specs.declared.fault.Fault.TheVariants.{Memory}
use Rattle.ee_interface.specs.Fault.{fault_of_script}
use Rattle.ee_commands.proofs.Sizes.{cause_of_trace, only_want_of_memory}
use Rattle.ee_commands.proofs.sizing.needs_of.Goals as goal

pub returns-in_err-trace-clause-names : goal.returns-in_err-trace-clause-names
returns-in_err-trace-clause-names g c = λ cause some applies.
    error_passed_on c.from_residual.result (fault_of_script c.in_err-trace.field-0.0) (λ needs. ⊥)
    (λ fault. (fault ≡ cause) ⊎ (fault ≡ Memory)) c.from_residual.ensures.1
    (cause_of_trace c.args.script.now cause c.in_err-trace.field-0.0 some applies
    c.in_err-trace.ensures.fault)

pub returns-clause-names : goal.returns-clause-names
returns-clause-names g c =
    λ cause some applies. only_want_of_memory c.args.script.now c.in_ok-trace.trace.items cause
    c.in_ok-trace.ensures.trace some applies
