use Rattle.std.proofs.Common.{◌≡◌, ◌∙◌, ap, arith, rules}
use Rattle.std.proofs.lemmas.Grind.{common_steps}
use Rattle.ee_pages.specs.Meaning.{Map}
use Rattle.ee_core.specs.State.{state_of}
use Rattle.ee_settings.proofs.Outdated.{one_further}
use Rattle.ee_settings.specs.Stale.{stale_in}
use Rattle.ee_settings.proofs.schema.Schema.stale_values.Goals as goal

pub loop-index-preserved : goal.loop-index-preserved
loop-index-preserved g c =
    let stored = (state_of (g.V.Variables.device c.args.store.now)).map in
    let found : c.copied-value.result ≡ stored c.numbers-numbers.result.address =
    c.copied-value.ensures ∙ c.get.ensures.value
    ∙ ap (λ (values : Map). values c.numbers-numbers.result.address) c.in-Ok.ensures in
    let further =
    one_further stored c.as_slice-setting-items.result.now c.loop-index.index c.setting-item.result
    c.numbers-numbers.result c.copied-value.result c.loop-index.stale.items
    c.push_stale.new.stale.items
    (stale_in stored c.args.self.now.settings)
    c.loop-index-test.true c.setting-item.is c.numbers-numbers.ensures.numbers found in
    let pushed = c.in-Ok-push_stale.ensures in
    let so_far = c.loop-index.invariant in
    search (rules, further, pushed, so_far)

pub returns-clause-stale : goal.returns-clause-stale
returns-clause-stale g c = grind (arith, common_steps)
