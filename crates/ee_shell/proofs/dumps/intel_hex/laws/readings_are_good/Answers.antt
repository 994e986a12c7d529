use Rattle.std.proofs.Common.{rules}
use Rattle.ee_shell.proofs.dumps.intel_hex.Judging.{readings_are_good_lem}
use Rattle.ee_shell.proofs.dumps.intel_hex.laws.readings_are_good.Goals as goal

pub returns : goal.returns
returns c = search (rules, readings_are_good_lem)
