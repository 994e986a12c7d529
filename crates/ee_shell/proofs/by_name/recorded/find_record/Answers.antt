use Rattle.std.proofs.Common.{◌≢◌, ◌∙◌, ap, arith, rules}
use Rattle.ee_settings.specs.Setting.{RecordSetting}
use Rattle.ee_shell.proofs.ByNameLemmas.Recorded.{none_more}
use Rattle.ee_shell.proofs.by_name.recorded.find_record.Goals as goal

pub loop-one-init : goal.loop-one-init
loop-one-init g c = λ k d below. absurd (omega (arith, below))

pub loop-one-preserved : goal.loop-one-preserved
loop-one-preserved g c =
    let apart : c.one-item.result.name ≢ c.args.name.now = search rules in
    none_more c.args.records.now c.args.name.now c.loop-one.one-index c.one-item.result (search rules)
    apart c.loop-one.invariant

pub returns-clause-none : goal.returns-clause-none
returns-clause-none g c = λ one named.
    c.loop-one.invariant named.0.0 one (omega (arith, c.loop-one-test.false, named.0.1)) named.0.1
    (ap (λ (r : RecordSetting). r.name) named.0.2 ∙ named.1)
