use Rattle.std.proofs.Common.{[], subst, ◌∙◌, ap}
use Rattle.std.proofs.KnownBytes.{Consumes-nil}
use Rattle.std.proofs.lemmas.Result.{IfErr-weaker, IfOk-weaker, err_from_is_err_and}
use Rattle.ee_flash.specs.Device.{Device}
use Rattle.ee_core.specs.State.{state_of}
use Rattle.ee_check.specs.Schedule.{IsProper}
use Rattle.ee_core.specs.Points.{open_point}
use Rattle.ee_replay.specs.Serving.{no_notes, serving_on, with_notes}
use Rattle.ee_replay.proofs.Given.{out_of_memory}
use Rattle.ee_replay.proofs.NotedRuns.{is_traced}
use Rattle.ee_replay.proofs.replaying.run_reader.Goals as goal

pub returns-in_err-desk-clause-fault : goal.returns-in_err-desk-clause-fault
returns-in_err-desk-clause-fault g c =
    let p = err_from_is_err_and c.from_residual.result c.from_residual.ensures.1 in
    rw p.1 (out_of_memory _ _ [] p.0 (Consumes-nil _) p.2)

pub returns-clause-fault : goal.returns-clause-fault
returns-clause-fault g c =
    let all = c.in_ok-server.ensures.answered in
    IfErr-weaker c.left_by.result _ _
    (λ fault none. out_of_memory _ _ all.text fault all.given none) c.left_by.ensures.fault

pub returns-clause-run : goal.returns-clause-run
returns-clause-run g c =
    let all = c.in_ok-server.ensures.answered in
    let same = c.in_ok-desk.ensures.same in
    let traced =
    is_traced (λ server. with_notes (open_point server.desk) server.notes) c.args.desk _ _
    _ _ all.answered
    (c.new-server.ensures.point ∙ ap serving_on same)
    (c.new-server.ensures.notes
    ∙ ap (λ (device : Device). no_notes (state_of device).fill) same)
    c.requires.on c.in_ok-desk.ensures.fused in
    let proper = subst IsProper c.start.view_is c.start.invariant.proper in
    IfOk-weaker c.left_by.result _ _
    (λ replayed made. (
      all.text,
      record { given = all.given; ended = all.ended },
      made _ _ traced c.in_ok-desk.ensures.start proper c.requires,
    ))
    c.left_by.ensures.run
