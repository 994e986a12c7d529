use Rattle.ee_replay.proofs.Arming.{each_cut_was_armed}
use Rattle.ee_replay.proofs.laws.cuts_are_armed.Goals as goal

pub returns : goal.returns
returns c = each_cut_was_armed
