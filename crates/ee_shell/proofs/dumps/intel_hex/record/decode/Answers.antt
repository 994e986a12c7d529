use Rattle.std.proofs.Common.{rules}
use Rattle.ee_shell.proofs.dumps.intel_hex.Digits.{no_pair_more, one_pair_more}
use Rattle.ee_shell.proofs.dumps.intel_hex.record.decode.Goals as goal

pub loop-i-preserved : goal.loop-i-preserved
loop-i-preserved c = search (rules, one_pair_more, no_pair_more)
