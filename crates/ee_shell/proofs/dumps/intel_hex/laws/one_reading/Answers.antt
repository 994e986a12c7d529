use Rattle.std.proofs.Common.{rules}
use Rattle.ee_shell.proofs.dumps.intel_hex.Judging.{one_reading_lem}
use Rattle.ee_shell.proofs.dumps.intel_hex.laws.one_reading.Goals as goal

pub returns : goal.returns
returns c = search (rules, one_reading_lem)
