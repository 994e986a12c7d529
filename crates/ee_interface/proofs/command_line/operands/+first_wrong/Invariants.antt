use Rattle.std.proofs.Common.{length}
use Rattle.ee_interface.proofs.command_line.operands.+first_wrong.Given as goal

abbrev pub decreases-first_wrong : goal.decreases-first_wrong
decreases-first_wrong l = length l.operands.now
