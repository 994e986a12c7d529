use Rattle.std.proofs.Common.{◌∙◌, Option, ℕ, arith, subst, rules}
use Rattle.ee_pages.specs.LiveOrder.{AreLiveThrough, above_of}
use Rattle.ee_core.specs.State.{state_of}
use Rattle.ee_settings.proofs.Stored.{none_yet, put_all, put_through}
use Rattle.ee_settings.proofs.stale.stored_values.Goals as goal

pub stored-init : goal.stored-init
stored-init g c = record {
  below = omega arith;
  so_far = rw c.new-stored.ensures.empty (none_yet (g.V.Variables.device c.args.store.now));
}

pub stored-preserved : goal.stored-preserved
stored-preserved g c =
    let map = (state_of (g.V.Variables.device c.args.store.now)).map in
    let found = c.next_batch-batch.result.found.items in
    let batch =
    subst (λ (through : Option ℕ). AreLiveThrough map (above_of c.stored.after) found through)
    c.in-Some.is c.next_batch-batch.ensures.live in
    record {
      below = search arith;
      so_far =
          c.in_ok-insert_each.ensures
          ∙ rw c.stored.invariant.so_far
          (put_through map found (above_of c.stored.after) c.in-Some.through batch);
    }

pub returns-in_default : goal.returns-in_default
returns-in_default g c = search (rules, put_all)
