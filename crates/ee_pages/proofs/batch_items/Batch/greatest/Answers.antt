use Rattle.std.proofs.Common.{◌≡◌, ◌≤◌, ◌∙◌, length, ap, arith}
use Rattle.ee_pages.specs.Nearest.{Batch, last_named}
use Rattle.ee_pages.specs.declared.batch_items.TheConstants.{BATCH}
use Rattle.ee_pages.proofs.BatchLists.{last_number, length_named}
use Rattle.ee_pages.proofs.batch_items.Batch.greatest.Goals as goal

pub returns-clause-full : goal.returns-clause-full
returns-clause-full c = λ above h.
    let i = c.self.inside in
    let few : i.len ≤ length i.numbers = omega (arith, c.self.invariant.0, c.self.invariant.1) in
    let same = ap (λ (b : Batch). b.named) c.self.view_is in
    let full : i.len ≡ BATCH = omega (arith, length_named i.len i.numbers few, ap length same, h) in
    c.address_in.ensures ∙ last_number i.len i.numbers few BATCH above full (omega arith)
    ∙ ap (last_named above) same
