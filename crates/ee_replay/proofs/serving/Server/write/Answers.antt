use Rattle.ee_core.specs.Points.{open_point}
use Rattle.ee_replay.proofs.NotedRuns.{wrote_cut_counted}
use Rattle.ee_replay.proofs.serving.Server.write.Goals as goal

pub invariant_of-self-in-Err-Cut : goal.invariant_of-self-in-Err-Cut
invariant_of-self-in-Err-Cut g c =
    record {
      counted =
          wrote_cut_counted c.args.self.now.desk.on c.args.self.now.desk
          (open_point c.write.new.self) c.args.address c.args.value c.args.self.now.notes
          c.note_cut.new.self _ c.in-Err-Cut.field-0-is
          c.in-Err-Cut.ensures.calls
          c.args.self.now.counted c.note_cut.ensures.noted;
    }
