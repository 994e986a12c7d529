use Rattle.ee_replay.proofs.OneOutcome.{one_try}
use Rattle.ee_replay.proofs.laws.one_try.Goals as goal

pub returns : goal.returns
returns c = one_try
