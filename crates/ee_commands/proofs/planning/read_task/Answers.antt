use Rattle.std.proofs.Common.{inl, refl}
use Rattle.ee_text.proofs.Public.{passed_on}
use Rattle.ee_interface.specs.Fault.{fault_of_script}
use Rattle.ee_interface.specs.declared.fault.Fault.TheVariants.{Memory}
use Rattle.ee_interface.specs.declared.replay_fault.ReplayFault.TheVariants as replay
use Rattle.ee_commands.specs.Planning.{IsTaskFault}
use Rattle.ee_image_store.specs.FileFaults.{IsOpeningFault}
use Rattle.ee_commands.proofs.OneTask.{is_task, no_trace}
use Rattle.ee_commands.proofs.planning.read_task.Goals as goal

pub returns-in_err-start-clause-fault : goal.returns-in_err-start-clause-fault
returns-in_err-start-clause-fault g c =
    let ran_out : IsOpeningFault c.args.image.now Memory =
    record { cause = replay.Memory; applies = tt; fault_is = refl } in
    passed_on c.from_residual-in_err-start.result Memory
    (IsTaskFault c.args.image.now c.args.script.now)
    c.from_residual-in_err-start.ensures.1 (inl ran_out)

pub returns-in_err-trace-clause-fault : goal.returns-in_err-trace-clause-fault
returns-in_err-trace-clause-fault g c =
    passed_on c.from_residual-in_err-trace.result (fault_of_script c.in_err-trace.field-0.0)
    (IsTaskFault c.args.image.now c.args.script.now) c.from_residual-in_err-trace.ensures.1
    (no_trace c.args.image.now c.args.script.now c.in_ok-store.store c.in_err-trace.field-0.0
    c.in_ok-store.ensures.opened c.in_err-trace.ensures.fault)

pub returns-clause-task : goal.returns-clause-task
returns-clause-task g c =
    is_task c.args.image.now c.args.script.now c.in_ok-store.store c.in_ok-start.start
    c.in_ok-trace.trace.items c.in_ok-store.ensures.opened c.in_ok-start.ensures.start
    c.in_ok-trace.ensures.trace
