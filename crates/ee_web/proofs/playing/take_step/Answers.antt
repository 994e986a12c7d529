use Rattle.std.proofs.Common.{◌∙◌, sym, ap}
use Rattle.ee_flash.specs.Step.{Step, device_after}
use Rattle.ee_web.specs.Mirror.{mirrored_device}
use Rattle.ee_web.proofs.PlayedSteps.{is_program}
use Rattle.ee_web.proofs.playing.take_step.Goals as goal

pub returns-else-step-eq18446744073709551615-clause-done :
    goal.returns-else-step-eq18446744073709551615-clause-done
returns-else-step-eq18446744073709551615-clause-done c =
    c.program.ensures.done c.args.wears.now
    ∙ ap
    (λ (step : Step). device_after step
    (mirrored_device c.args.shape c.args.words.now c.args.flags.now c.args.wears.now))
    (sym (is_program c.args.step c.if-step-eq18446744073709551615.false))
