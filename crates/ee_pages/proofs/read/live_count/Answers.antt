use Rattle.std.proofs.Common.{rules, Option, subst, ℕ, arith}
use Rattle.ee_pages.specs.Meaning.{meaning}
use Rattle.ee_pages.specs.LiveOrder.{AreLiveThrough, above_of}
use Rattle.ee_pages.specs.Sets.{set_of, slots_of}
use Rattle.ee_pages.proofs.Counts.{counted_all, counted_through, last_rises, live_to-zero}
use Rattle.ee_pages.proofs.read.live_count.Goals as goal

pub live-init : goal.live-init
live-init g c = search (rules, live_to-zero)

pub live-preserved : goal.live-preserved
live-preserved g c =
    let map =
    meaning (slots_of (set_of c.args.layout.now.side (g.F.Flash.device c.args.flash.now))) in
    let found = c.next_batch.new.batch.found.items in
    let above = above_of c.live.after in
    let batch =
    subst (λ (through : Option ℕ). AreLiveThrough map above found through) c.in-Some.is
    c.next_batch.ensures.live in
    record {
      few =
          omega (arith, last_rises map found above batch.next, batch.rest.0, c.live.invariant.few);
      count = search (
        arith,
        counted_through map found above c.live.count c.live.invariant.count c.in-Some.through
            batch,
      );
    }

pub returns-in_default : goal.returns-in_default
returns-in_default g c =
    let map =
    meaning (slots_of (set_of c.args.layout.now.side (g.F.Flash.device c.args.flash.now))) in
    let found = c.next_batch.new.batch.found.items in
    let above = above_of c.live.after in
    let batch =
    subst (λ (through : Option ℕ). AreLiveThrough map above found through) c.in_default.is
    c.next_batch.ensures.live in
    search (
      arith,
      counted_all map found above c.live.count c.live.invariant.count c.next_batch.ensures.from
          c.next_batch.ensures.proper batch,
    )
