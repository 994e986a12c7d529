use Rattle.std.proofs.Common.{rules}
use Rattle.ee_shell.proofs.dumps.intel_hex.Judging.{one_bad_line_lem}
use Rattle.ee_shell.proofs.dumps.intel_hex.laws.one_bad_line.Goals as goal

pub returns : goal.returns
returns c = search (rules, one_bad_line_lem)
