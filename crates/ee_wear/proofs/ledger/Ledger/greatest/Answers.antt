use Rattle.std.proofs.Common.{rules, ◌≡◌, ◌∙◌, sym, ap}
use Rattle.std.specs.Prelude.{unwrap_or}
use Rattle.std.proofs.lemmas.Iterator.{YieldsList-from_slice}
use Rattle.std.proofs.lemmas.Iterator.Consumers.{YieldsList-from_copied, YieldsList-at, max_from_yields_List}
use Rattle.std.proofs.lemmas.Iterator.Adapters.{option_map_id}
use Rattle.ee_wear.specs.Counts.{greatest_of}
use Rattle.ee_wear.proofs.ledger.Ledger.greatest.Goals as goal

pub returns-clause-value : goal.returns-clause-value
returns-clause-value g c =
    let yields =
    YieldsList-from_copied
    (YieldsList-at c.copied.ensures.source (YieldsList-from_slice c.args.self.now cc)) in
    let picked = max_from_yields_List _ _ c.max.ensures.ran yields in
    let is : c.unwrap_or.result ≡ greatest_of c.args.self.now =
    c.unwrap_or.ensures
    ∙ ap (λ greatest. unwrap_or greatest 0) (sym (option_map_id _) ∙ picked) in
    search (rules, is)
