use Rattle.std.proofs.Common.{rules, ◌-◌, ℕ}
use Rattle.std.specs.Prelude.{Ok}
use Rattle.std.proofs.lemmas.Iterator.{YieldsList-from_map, YieldsList-from_slice, YieldsList-from_zip, items_from_collect}
use Rattle.std.proofs.lemmas.Iterator.Consumers.{YieldsList-at}
use Rattle.ee_wear.proofs.ledger.Ledger.since.Goals as goal

pub returns-clause-value : goal.returns-clause-value
returns-clause-value g c =
    let old =
    YieldsList-at c.zip-pairs.ensures.first (YieldsList-from_slice c.args.before.now cc) in
    let new = YieldsList-from_slice {s = c.zip-pairs.result.b} c.args.self.now (search rules) in
    let pairs = YieldsList-at c.map.ensures.source (YieldsList-from_zip old new) in
    items_from_collect {E = ℕ} (Ok c.in_ok-counts.counts) c.in_ok-counts.ensures.ran
    (YieldsList-from_map _ (λ counts. counts.1 - counts.0) pairs c.map.ensures.closure
    (λ pair count captured call. search rules fits 100 parts 0))
