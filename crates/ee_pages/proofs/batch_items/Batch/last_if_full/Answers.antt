use Rattle.std.proofs.Common.{rules, ◌≡◌, ℕ, ◌≤◌, ◌∙◌, length, Option, Some, None, ap, arith}
use Rattle.std.specs.Prelude.{IfSome}
use Rattle.ee_pages.specs.Nearest.{Batch, last_named}
use Rattle.ee_pages.specs.declared.batch_items.TheConstants.{BATCH}
use Rattle.ee_pages.proofs.BatchLists.{last_number, length_named}
use Rattle.ee_pages.proofs.batch_items.Batch.last_if_full.Goals as goal

some_is : (found : Option ℕ) (number last : ℕ) → IfSome found (λ address. address ≡ number)
    → number ≡ last → IfSome found (λ address. address ≡ last)
some_is None number last is same = tt
some_is (Some address) number last is same = is ∙ same

pub returns-then-self-lt-BATCH-clause-none : goal.returns-then-self-lt-BATCH-clause-none
returns-then-self-lt-BATCH-clause-none c = search (rules, length_named)

pub returns-clause-last : goal.returns-clause-last
returns-clause-last c = λ above.
    let i = c.self.inside in
    let few : i.len ≤ length i.numbers = omega (arith, c.self.invariant.0, c.self.invariant.1) in
    let same = ap (λ (b : Batch). b.named) c.self.view_is in
    let full : i.len ≡ BATCH = omega (arith, c.self.invariant.0, c.if-self-lt-BATCH.false) in
    some_is c.new.result c.address_in.result (last_named above c.args.self.now.named)
    c.new.ensures.number
    (c.address_in.ensures ∙ last_number i.len i.numbers few BATCH above full (omega arith)
    ∙ ap (last_named above) same)
