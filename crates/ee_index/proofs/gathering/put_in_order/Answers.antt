use Rattle.std.proofs.Common.{◌∙◌, ap, rules, sym, subst}
use Rattle.std.proofs.lemmas.Fn.{dedup_same}
use Rattle.std.proofs.lemmas.List.Sorted.{answers_always}
use Rattle.ee_index.specs.Entries.{AreInOrder}
use Rattle.ee_index.specs.Index.{slot_for}
use Rattle.ee_index.proofs.Gathered.{first_kept, first_sorted, kept_rise}
use Rattle.ee_index.proofs.gathering.put_in_order.Goals as goal

pub returns : goal.returns
returns g c =
    let old = c.args.entries.now.items in
    let sorted = c.sort_by_key.new.self.items in
    let kept =
    dedup_same _ _ _ (λ one other b f' x' y' k. search rules) sorted _
    c.dedup_by_key.ensures.filtered in
    let rising =
    c.in_ok-sort_by_key.ensures.sorted (λ entry. entry.0)
    (answers_always _ _ _ (λ f a r g called. search rules)) in
    let stable =
    c.sort_by_key.ensures.stable (λ entry. entry.0)
    (answers_always _ _ _ (λ f a r g called. search rules)) in
    record {
      ordered = subst (λ entries. AreInOrder entries) (sym kept) (kept_rise sorted rising);
      first =
          λ address. ap (λ entries. slot_for entries address) kept ∙ first_kept sorted address
          ∙ first_sorted old sorted stable address;
    }
