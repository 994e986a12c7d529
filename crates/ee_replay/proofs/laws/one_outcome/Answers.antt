use Rattle.ee_replay.proofs.OneOutcome.{one_outcome}
use Rattle.ee_replay.proofs.laws.one_outcome.Goals as goal

pub returns : goal.returns
returns c = one_outcome
