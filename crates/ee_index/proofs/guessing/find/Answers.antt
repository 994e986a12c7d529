use Rattle.std.proofs.Common.{rules, ap, sym, ◌∙◌}
use Rattle.std.proofs.lemmas.List.{get_or_default}
use Rattle.ee_index.proofs.InOrder.{stands_at}
use Rattle.ee_index.proofs.guessing.find.Goals as goal

pub returns-then-eq-clause-found : goal.returns-then-eq-clause-found
returns-then-eq-clause-found c =
    let read = get_or_default _ _ _ (0, 0) c.if-place-entries.true in
    stands_at _ c.requires _ _ c.if-place-entries.true
    (ap (λ entry. entry.0) (sym read ∙ sym c.index-entries-place.is) ∙ search rules)
