use Rattle.std.proofs.Common.{refl, rules}
use Rattle.ee_replay.proofs.NotedRuns.{counted_same}
use Rattle.ee_replay.proofs.Powering.{armed_same}
use Rattle.ee_replay.proofs.serving.Server.arm.Goals as goal

pub invariant_of-self : goal.invariant_of-self
invariant_of-self g c =
    record {
      counted =
          counted_same _ _ _ c.args.self.now.notes
          (armed_same c.args.self.now.desk c.arm.new.self c.args.fuse c.arm.ensures.armed) refl
          c.args.self.now.counted;
    }

pub returns : goal.returns
returns g c = search rules
