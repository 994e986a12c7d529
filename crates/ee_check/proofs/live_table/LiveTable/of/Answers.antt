use Rattle.ee_check.proofs.Walks.{one_copied}
use Rattle.ee_check.proofs.live_table.LiveTable.of.Goals as goal

pub loop-address-preserved : goal.loop-address-preserved
loop-address-preserved g c =
    rw c.make.ensures
    (one_copied c.loop-address.table c.loop-address.address-iterator c.next.new.self
    c.args.live.now.keys c.in-Some.address.now c.in-Some.ensures.steps c.loop-address.invariant)
