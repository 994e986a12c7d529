use Rattle.std.proofs.Common.{rules}
use Rattle.ee_check.proofs.Walks.{one_copied}
use Rattle.ee_check.proofs.start.Start.live_in.Goals as goal

pub loop-address-preserved : goal.loop-address-preserved
loop-address-preserved g c =
    rw c.in_ok-insert.ensures.keys
    (one_copied c.loop-address.copy.keys c.loop-address.address-iterator c.next.new.self
    c.args.self.now.live c.in-Some.address.now c.in-Some.ensures.steps c.loop-address.invariant)

pub returns : goal.returns
returns g c = search rules
