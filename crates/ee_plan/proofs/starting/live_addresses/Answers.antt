use Rattle.std.proofs.Common.{◌≡◌, Option, subst, arith, ℕ, length}
use Rattle.ee_pages.specs.Meaning.{live_in}
use Rattle.ee_pages.specs.LiveOrder.{AreLiveThrough, above_of}
use Rattle.ee_core.specs.State.{state_of}
use Rattle.ee_plan.specs.Start.{AreLive}
use Rattle.ee_plan.proofs.Gathering.{as_built, last_counted, last_live, none_yet, through_batch, zero_has_none}
use Rattle.ee_plan.proofs.starting.live_addresses.Goals as goal

pub live-init : goal.live-init
live-init g c =
    let device = g.V.Variables.device c.args.store.now in
    record {
      below = omega arith;
      so_far =
          rw c.new-live.ensures.items (none_yet (state_of device).map (zero_has_none device));
    }

pub live-preserved : goal.live-preserved
live-preserved g c =
    let map = (state_of (g.V.Variables.device c.args.store.now)).map in
    let found = c.next_batch-batch.result.found.items in
    let batch =
    subst (λ (through : Option ℕ). AreLiveThrough map (above_of c.live.after) found through)
    c.in-Some.is c.next_batch-batch.ensures.live in
    record {
      below = search arith;
      so_far =
          rw c.in_ok-push_each.ensures
          (through_batch map found (above_of c.live.after) _ c.live.live.items
          c.live.invariant.so_far c.next_batch-batch.ensures.proper batch);
    }

pub set_of-requires : goal.set_of-requires
set_of-requires g c =
    let map = (state_of (g.V.Variables.device c.args.store.now)).map in
    let found = c.next_batch-batch.result.found.items in
    let batch =
    subst (λ (through : Option ℕ). AreLiveThrough map (above_of c.live.after) found through)
    c.in_default.is c.next_batch-batch.ensures.live in
    rw c.in_ok-push_each.ensures
    ((last_live map found (above_of c.live.after) c.live.live.items c.live.invariant.so_far
    c.next_batch-batch.ensures.proper batch).ascending)

pub returns-in_default-clause-live : goal.returns-in_default-clause-live
returns-in_default-clause-live g c =
    let map = (state_of (g.V.Variables.device c.args.store.now)).map in
    let found = c.next_batch-batch.result.found.items in
    let batch =
    subst (λ (through : Option ℕ). AreLiveThrough map (above_of c.live.after) found through)
    c.in_default.is c.next_batch-batch.ensures.live in
    let all : AreLive map c.push_each.new.live.items =
    rw c.in_ok-push_each.ensures
    (last_live map found (above_of c.live.after) c.live.live.items c.live.invariant.so_far
    c.next_batch-batch.ensures.proper batch) in
    as_built (AreLive map) c.set_of.result c.push_each.new.live.items all c.set_of.ensures

pub returns-in_default-clause-count : goal.returns-in_default-clause-count
returns-in_default-clause-count g c =
    let map = (state_of (g.V.Variables.device c.args.store.now)).map in
    let found = c.next_batch-batch.result.found.items in
    let batch =
    subst (λ (through : Option ℕ). AreLiveThrough map (above_of c.live.after) found through)
    c.in_default.is c.next_batch-batch.ensures.live in
    let all : length c.push_each.new.live.items ≡ live_in map =
    rw c.in_ok-push_each.ensures
    (last_counted map found (above_of c.live.after) c.live.live.items c.live.invariant.below
    c.live.invariant.so_far c.next_batch-batch.ensures.proper batch) in
    as_built (λ live. length live ≡ live_in map) c.set_of.result c.push_each.new.live.items all
    c.set_of.ensures
