use Rattle.std.proofs.Common.{◌≡◌, ◌≢◌, ◌∙◌, ap, arith, length, rules}
use Rattle.ee_settings.proofs.Entries.{none_more}
use Rattle.ee_settings.specs.Setting.{Schema, Setting}
use Rattle.ee_settings.proofs.schema.Schema.find.Goals as goal

pub loop-setting-preserved : goal.loop-setting-preserved
loop-setting-preserved g c =
    let apart : c.setting-item.result.name ≢ c.args.name.now = search rules in
    none_more (λ setting. setting.name ≡ c.args.name.now) c.args.self.now.settings
    c.loop-setting.setting-index c.setting-item.result (search rules) apart
    c.loop-setting.invariant

pub returns-then-eq-clause-none : goal.returns-then-eq-clause-none
returns-then-eq-clause-none g c = search rules

pub loop-setting-init : goal.loop-setting-init
loop-setting-init g c = λ k d below. absurd (omega (arith, below))

pub returns-clause-none : goal.returns-clause-none
returns-clause-none g c = λ setting named.
    let long = ap length (c.as_slice-setting-items.ensures ∙ ap (λ (s : Schema). s.settings) c.self.view_is) in
    c.loop-setting.invariant named.0.0 setting
    (omega (arith, long, c.loop-setting-test.false, named.0.1)) named.0.1
    (ap (λ (s : Setting). s.name) named.0.2 ∙ named.1)
