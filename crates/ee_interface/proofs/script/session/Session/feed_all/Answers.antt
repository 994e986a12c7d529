use Rattle.std.proofs.Common.{◌*◌, ap, arith, rules, subst, take}
use Rattle.std.proofs.lemmas.List.{length-take}
use Rattle.std.proofs.lemmas.Result.{err_from_is_err_and}
use Rattle.ee_interface.specs.Script.Session.{IsUnfinished}
use Rattle.ee_interface.proofs.ScriptLemmas.Streams.{stops_at_fault, taken_kept, taken_more, taken_none, takes}
use Rattle.ee_interface.proofs.script.session.Session.feed_all.Goals as goal
use Rattle.ee_interface.proofs.script.session.Session.feed_all.Goals.{else-reading-test, in-Ok+in_ok-session-in-Ok, in-Err+else-ne, then-reading-test+in-Err+then-ne}

pub reading-init : goal.reading-init
reading-init g c = taken_none g.S.Serve.serves c.args.self (g.R.Read.remaining c.args.reader.now) 0

pub returns-in_err-session-in-Ok-clause-fault : goal.returns-in_err-session-in-Ok-clause-fault
returns-in_err-session-in-Ok-clause-fault g c =
    let p = err_from_is_err_and c.from_residual.result c.from_residual.ensures.1 in
    rw p.1 (rw p.2
    (stops_at_fault g.S.Serve.serves c.args.self c.reading.session _ _ _ (c.reading.counter * 4096)
    (take c.in-Ok.count c.read.new.buf) c.in_err-session-in-Ok.field-0.0
    c.reading.invariant c.in-Ok.ensures.bytes.0
    (omega (arith, length-take c.in-Ok.count c.read.new.buf))
    (search (rules, c.in_err-session-in-Ok.ensures))))

pub reading-preserved : goal.reading-preserved
reading-preserved g c = search (rules, taken_more, length-take, taken_kept)

pub returns-clause-fault : goal.returns-clause-fault
returns-clause-fault g c = (
  c.reading.session,
  elim c.reading-test.branch [
    | else-reading-test w ↦ rw w.reader-is
        (takes g.S.Serve.serves c.args.self c.reading.session _ _ (c.reading.counter * 4096)
        (omega arith) c.reading.invariant)
    | then-reading-test+in-Err+then-ne w ↦ rw w.reader-is
        (takes g.S.Serve.serves c.args.self c.reading.session _ _ (c.reading.counter * 4096)
        (omega arith)
        (taken_kept g.S.Serve.serves c.args.self c.reading.session _ _ _ (c.reading.counter * 4096)
        (c.reading.counter * 4096) c.reading.invariant w.in-Err.ensures.bytes (omega arith)))
  ],
  subst IsUnfinished (ap (λ p. p.unfinished) c.session.view_is) c.session.invariant,
)
