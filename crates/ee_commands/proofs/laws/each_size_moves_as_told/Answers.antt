use Rattle.ee_commands.proofs.SizedRuns.{each_size_moves_as_told_lem}
use Rattle.ee_commands.proofs.laws.each_size_moves_as_told.Goals as goal

pub returns : goal.returns
returns c = each_size_moves_as_told_lem
