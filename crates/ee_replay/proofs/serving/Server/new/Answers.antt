use Rattle.ee_replay.proofs.NotedRuns.{none_counted}
use Rattle.ee_replay.proofs.serving.Server.new.Goals as goal

pub invariant_of-result : goal.invariant_of-result
invariant_of-result g c =
    record { counted = rw c.new-notes.ensures (none_counted _ _ c.requires.legal c.fill.ensures) }
