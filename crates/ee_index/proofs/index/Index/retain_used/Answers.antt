use Rattle.std.proofs.Common.{nat_lt, rules, sym, subst}
use Rattle.std.proofs.lemmas.Fn.{filter_same}
use Rattle.ee_index.specs.Entries.{AreInOrder}
use Rattle.ee_index.proofs.InOrder.{ordered_kept}
use Rattle.ee_index.proofs.index.Index.retain_used.Goals as goal

pub invariant_of-self : goal.invariant_of-self
invariant_of-self g c =
    let kept =
    filter_same _ (λ entry. nat_lt entry.1 c.args.fill) _
    (λ entry stays after called. search (rules, called)) _ _ c.retain.ensures.filtered in
    subst (λ entries. AreInOrder entries) (sym kept)
    (ordered_kept (λ entry. nat_lt entry.1 c.args.fill) _ c.self.invariant)

pub returns-clause-used : goal.returns-clause-used
returns-clause-used g c =
    rw (← c.self.view_is)
    (filter_same _ (λ entry. nat_lt entry.1 c.args.fill) _
    (λ entry stays after called. search (rules, called)) _ _ c.retain.ensures.filtered)
