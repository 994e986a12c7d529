use Rattle.std.proofs.Common.{rules}
use Rattle.std.proofs.lemmas.Result.{err_from_is_err_and}
use Rattle.ee_interface.proofs.ScriptLemmas.Streams.{ended_badly, stopped, stream_answered, stream_has_no_bad_line, stream_names}
use Rattle.ee_interface.proofs.script.whole.answer_reader.Goals as goal

pub returns-in_err-session-clause-fault : goal.returns-in_err-session-clause-fault
returns-in_err-session-clause-fault g c =
    let p = err_from_is_err_and c.from_residual.result c.from_residual.ensures.1 in
    rw p.1
    (rw p.2
    (stopped g.S.Serve.serves c.args.server _ _ _
    (rw c.new.ensures at c.in_err-session.ensures.fault)))

pub returns-in_err-session-clause-bad : goal.returns-in_err-session-clause-bad
returns-in_err-session-clause-bad g c = λ script n known bad.
    let p = err_from_is_err_and c.from_residual.result c.from_residual.ensures.1 in
    rw p.1
    (rw p.2
    (stream_names _ _ script n _ known bad
    (stopped g.S.Serve.serves c.args.server _ _ _
    (rw c.new.ensures at c.in_err-session.ensures.fault))))

pub returns-in_err-done-clause-fault : goal.returns-in_err-done-clause-fault
returns-in_err-done-clause-fault g c = search (rules, err_from_is_err_and, ended_badly)

pub returns-in_err-done-clause-bad : goal.returns-in_err-done-clause-bad
returns-in_err-done-clause-bad g c = λ script n known bad.
    let p =
    err_from_is_err_and c.from_residual-in_err-done.result
    c.from_residual-in_err-done.ensures.1 in
    rw p.1 (rw p.2 (stream_names _ _ script n _ known bad
    (ended_badly g.S.Serve.serves c.args.server _ _ c.in_ok-session.session _
    (rw c.new.ensures at c.in_ok-session.ensures.fed) c.in_ok-session.ensures.end
    c.in_err-done.ensures)))

pub returns-clause-answered : goal.returns-clause-answered
returns-clause-answered g c = search (rules, stream_answered)

pub returns-clause-bad : goal.returns-clause-bad
returns-clause-bad g c = λ script n known bad.
    stream_has_no_bad_line g.S.Serve.serves c.args.server _ _ _ _ script n known bad
    (stream_answered g.S.Serve.serves c.args.server _ _ c.in_ok-session.session _ _
    (rw c.new.ensures at c.in_ok-session.ensures.fed) c.in_ok-session.ensures.end
    c.in_ok-done.ensures)
