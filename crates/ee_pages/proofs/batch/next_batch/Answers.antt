use Rattle.std.proofs.Common.{arith, refl}
use Rattle.ee_pages.specs.LiveOrder.{above_of}
use Rattle.ee_pages.specs.Sets.{set_of, slots_of}
use Rattle.ee_pages.specs.declared.batch_items.TheConstants.{BATCH}
use Rattle.ee_pages.proofs.Nearest.{batch_from}
use Rattle.ee_pages.proofs.batch.next_batch.Goals as goal

pub returns-clause-live : goal.returns-clause-live
returns-clause-live g c =
    let slots = slots_of (set_of c.args.layout.now.side (g.F.Flash.device c.args.flash.now)) in
    let above = above_of c.args.after in
    rw c.keep_living.ensures.items
    (batch_from BATCH (omega arith) slots above c.number_of.result c.gather.new.nearest.named _
    c.last_if_full-batch.result refl c.gather.ensures c.number_of.ensures.value
    c.last_if_full-batch.ensures.none c.last_if_full-batch.ensures.full
    (c.last_if_full-batch.ensures.last above))
