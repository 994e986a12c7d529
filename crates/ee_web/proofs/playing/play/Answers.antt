use Rattle.std.proofs.Common.{List, sym, ap, arith}
use Rattle.ee_flash.specs.Laws.{all_completed}
use Rattle.ee_flash.specs.Step.{Step}
use Rattle.ee_web.specs.Mirror.{mirrored_device}
use Rattle.ee_web.proofs.DraftSteps.{none_listed}
use Rattle.ee_web.proofs.PlayedSteps.{step_done, step_may}
use Rattle.ee_web.proofs.playing.play.Goals as goal

pub listed-init : goal.listed-init
listed-init c =
    let start = mirrored_device c.args.shape c.args.words.now c.args.flags.now c.args.wears.now in (
      c.requires.mirror,
      sym (ap (λ (steps : List Step). all_completed steps start) (none_listed c.args.listed.now)),
    )

pub take_step-requires-clause-may : goal.take_step-requires-clause-may
take_step-requires-clause-may c =
    step_may (mirrored_device c.args.shape c.args.words.now c.args.flags.now c.args.wears.now)
    (mirrored_device c.args.shape c.listed.words c.listed.flags c.listed.wears)
    c.args.listed.now c.args.count c.listed.taken (record { page = 0; place = 0; value = 0 })
    c.requires.within c.listed-test.true c.requires.taken c.listed.invariant.1

pub listed-preserved : goal.listed-preserved
listed-preserved c = (
  c.take_step.ensures.mirror,
  step_done (mirrored_device c.args.shape c.args.words.now c.args.flags.now c.args.wears.now)
      (mirrored_device c.args.shape c.listed.words c.listed.flags c.listed.wears)
      (mirrored_device c.args.shape c.take_step.new.words c.take_step.new.flags
      c.take_step.new.wears) c.args.listed.now c.listed.taken
      (record { page = 0; place = 0; value = 0 })
      (omega (arith, c.requires.within, c.listed-test.true)) c.listed.invariant.1
      c.take_step.ensures.done,
)
