use Rattle.std.proofs.Common.{◌∙◌, subst, sym}
use Rattle.ee_flash.specs.Device.{Device}
use Rattle.ee_flash.specs.Memory.{device_of}
use Rattle.ee_core.specs.Finished.{IsStore}
use Rattle.ee_core.specs.Points.{open_point}
use Rattle.ee_replay.specs.Serving.{IsTraced}
use Rattle.ee_replay.proofs.Powering.{store_sound}
use Rattle.ee_replay.proofs.Replays.{is_run_on}
use Rattle.ee_replay.proofs.replaying.left_by.Goals as goal

pub returns-clause-run : goal.returns-clause-run
returns-clause-run g c = λ old script traced start proper stays.
    let at = c.into_store-store.ensures ∙ c.settle_to_count.ensures in
    let there =
    subst
    (λ (device : Device).
    IsTraced old script (open_point device) c.args.server.notes c.args.lines.items)
    (sym at) traced in
    is_run_on old (device_of c.flash.result.now) _ script _ _
    (c.in_ok-report.ensures old script there start proper stays)
    (store_sound _ (subst IsStore c.store.view_is c.store.invariant.store)) c.flash.ensures
    c.in_ok-image.ensures
