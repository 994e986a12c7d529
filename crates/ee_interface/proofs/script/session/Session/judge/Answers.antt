use Rattle.std.proofs.Common.{rules}
use Rattle.std.proofs.lemmas.Result.{MatchResult-weaker}
use Rattle.ee_interface.proofs.ScriptLemmas.Steps.{goes_at_feed}
use Rattle.ee_interface.proofs.ScriptLemmas.Faults.{fault_at_last, judged_all, judged_line, judged_none}
use Rattle.ee_interface.proofs.script.session.Session.judge.Goals as goal

pub lines-init : goal.lines-init
lines-init g c = search (rules, judged_none)

pub lines-preserved : goal.lines-preserved
lines-preserved g c = search (rules, judged_line, goes_at_feed)

pub returns : goal.returns
returns g c =
    let judged = c.lines.invariant.judged in
    MatchResult-weaker c.keep.result c.keep.ensures
    (λ done. judged_all g.S.Serve.serves c.args.self.now c.lines.self c.keep.new.self
    c.args.text.now c.lines.rest.now judged)
    (λ fault. fault_at_last g.S.Serve.serves c.args.self.now c.lines.self c.args.text.now
    c.lines.rest.now fault judged)
