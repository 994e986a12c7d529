use Rattle.std.proofs.Common.{rules}
use Rattle.ee_shell.proofs.dumps.intel_hex.Judging.{each_text_is_judged_lem}
use Rattle.ee_shell.proofs.dumps.intel_hex.laws.each_text_is_judged.Goals as goal

pub returns : goal.returns
returns c = search (rules, each_text_is_judged_lem)
