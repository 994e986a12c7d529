use Rattle.std.proofs.Common.{◌*◌}
use Rattle.ee_interface.proofs.ScriptLemmas.Streams.{HasTaken}
use Rattle.ee_interface.proofs.script.session.Session.feed_all.Given as goal

abbrev pub invariant-reading : goal.invariant-reading
invariant-reading g l =
    HasTaken g.S.Serve.serves l.fn.self (g.R.Read.remaining l.fn.reader)
    (g.R.Read.remaining l.reader) (l.counter * 4096) l.session
