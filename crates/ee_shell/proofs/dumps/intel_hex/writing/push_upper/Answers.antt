use Rattle.std.proofs.Common.{rules}
use Rattle.ee_shell.proofs.dumps.intel_hex.writing.push_upper.Goals as goal

pub returns-then-eq : goal.returns-then-eq
returns-then-eq g c = search rules
