use Rattle.std.proofs.Common.{◌<◌, ◌^◌, length, arith, rules}
use Rattle.std.proofs.lemmas.Result.{err_from_is_err_and, MatchResult-weaker}
use Rattle.ee_interface.proofs.ScriptLemmas.WholeScript.{answered, fault_in_script, fault_at_end, named, none_passed}
use Rattle.ee_interface.proofs.script.whole.answer_script.Goals as goal

pub returns-in_err-feed-clause-fault : goal.returns-in_err-feed-clause-fault
returns-in_err-feed-clause-fault g c = search (rules, err_from_is_err_and, fault_in_script)

pub returns-in_err-feed-clause-bad : goal.returns-in_err-feed-clause-bad
returns-in_err-feed-clause-bad g c n bad =
    let p = err_from_is_err_and c.from_residual.result c.from_residual.ensures.1 in
    let small : length c.args.script.now < 2 ^ 64 = omega arith in
    rw p.1
    (rw p.2
    (named c.args.script.now c.in_err-feed.field-0.0 n bad
    (fault_in_script c.args.server c.args.script.now c.in_err-feed.field-0.0 small
    (rw c.new.ensures at c.in_err-feed.ensures))))

pub returns-clause-fault : goal.returns-clause-fault
returns-clause-fault g c = search (rules, MatchResult-weaker, fault_at_end)

pub returns-clause-bad : goal.returns-clause-bad
returns-clause-bad g c n bad =
    let small : length c.args.script.now < 2 ^ 64 = omega arith in
    let went = rw c.new.ensures at c.in_ok-feed.ensures in
    MatchResult-weaker c.finish.result c.finish.ensures
    (λ done ended. none_passed g.S.Serve.serves c.args.server done.0 c.args.script.now done.1.items
    n bad
    (answered g.S.Serve.serves c.args.server c.args.script.now c.in_ok-feed.field-0 done.0
    done.1.items went ended))
    (λ fault ended. named c.args.script.now fault n bad
    (fault_at_end g.S.Serve.serves c.args.server c.args.script.now c.in_ok-feed.field-0 fault small
    went ended))
