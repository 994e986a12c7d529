use Rattle.ee_replay.proofs.Kept.{an_answered_change_stays_lem}
use Rattle.ee_replay.proofs.laws.an_answered_change_stays.Goals as goal

pub returns : goal.returns
returns c = an_answered_change_stays_lem
