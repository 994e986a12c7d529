use Rattle.ee_check.proofs.Walks.{one_made}
use Rattle.ee_check.proofs.change.make_all.Goals as goal

pub loop-change-preserved : goal.loop-change-preserved
loop-change-preserved g c =
    one_made c.args.live.now c.loop-change.live c.make.new.self c.args.changes.now
    c.loop-change.change-index c.change-item.result
    c.loop-change-test.true c.loop-change.invariant c.change-item.is c.in_ok-make.ensures.ok
