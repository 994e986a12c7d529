use Rattle.std.proofs.Common.{subst, ◌∙◌, ap}
use Rattle.std.proofs.lemmas.Result.{IfErr-weaker, IfOk-weaker}
use Rattle.ee_flash.specs.Device.{Device}
use Rattle.ee_core.specs.State.{state_of}
use Rattle.ee_check.specs.Schedule.{IsProper}
use Rattle.ee_core.specs.Points.{open_point}
use Rattle.ee_replay.specs.Serving.{no_notes, serving_on, with_notes}
use Rattle.ee_replay.proofs.NotedRuns.{is_traced}
use Rattle.ee_replay.proofs.replaying.run_on.Goals as goal

pub returns-clause-run : goal.returns-clause-run
returns-clause-run g c =
    let same = c.in_ok-desk.ensures.same in
    let traced =
    is_traced (λ server. with_notes (open_point server.desk) server.notes) c.args.desk _ _
    _ _ c.in_ok-server.ensures.answered
    (c.new-server.ensures.point ∙ ap serving_on same)
    (c.new-server.ensures.notes
    ∙ ap (λ (device : Device). no_notes (state_of device).fill) same)
    c.requires.on c.in_ok-desk.ensures.fused in
    let proper = subst IsProper c.start.view_is c.start.invariant.proper in
    IfOk-weaker c.left_by.result _ _
    (λ replayed made. made _ _ traced c.in_ok-desk.ensures.start proper c.requires)
    c.left_by.ensures.run

-- memory ran out
pub returns-clause-fault : goal.returns-clause-fault
returns-clause-fault g c =
    IfErr-weaker c.left_by.result _ _ (λ fault none. rw none tt) c.left_by.ensures.fault
