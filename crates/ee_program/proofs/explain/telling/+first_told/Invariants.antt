use Rattle.std.proofs.Common.{length}
use Rattle.ee_program.proofs.explain.telling.+first_told.Given as goal

abbrev pub decreases-first_told : goal.decreases-first_told
decreases-first_told g l = length l.faults.now
