use Rattle.std.proofs.Common.{◌∙◌}
use Rattle.std.proofs.lemmas.Iterator.Adapters.{YieldsList-from_vec, fact_from_collect}
use Rattle.std.specs.BTreeSet.{IsFromIterResult}
use Rattle.std.specs.Ordering.{nat_cmp}
use Rattle.ee_plan.proofs.Gathering.{set_of_ascending}
use Rattle.ee_plan.proofs.starting.set_of.Goals as goal

pub returns : goal.returns
returns g c =
    let rising =
    YieldsList-from_vec c.args.rising.items c.into_iter.ensures.rest
    (c.into_iter.ensures.len ∙ c.args.rising.ok.0) in
    set_of_ascending c.collect.result c.args.rising.items c.requires
    (fact_from_collect (IsFromIterResult nat_cmp) c.collect.result c.collect.ensures.ran rising)
