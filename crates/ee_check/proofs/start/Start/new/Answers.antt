use Rattle.std.proofs.Common.{rules}
use Rattle.ee_check.proofs.start.Start.new.Goals as goal

pub invariant_of-result : goal.invariant_of-result
invariant_of-result g = search rules
