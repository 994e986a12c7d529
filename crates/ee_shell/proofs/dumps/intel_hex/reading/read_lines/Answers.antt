use Rattle.std.proofs.Common.{arith, rules}
use Rattle.std.proofs.lemmas.Grind.{common_steps}
use Rattle.ee_shell.proofs.dumps.intel_hex.Lines.{shorter}
use Rattle.ee_shell.proofs.dumps.intel_hex.Parsing.{line_taken}
use Rattle.ee_shell.proofs.dumps.intel_hex.reading.read_lines.Goals as goal

pub loop-line-preserved : goal.loop-line-preserved
loop-line-preserved g c = search (rules, shorter, line_taken)

pub loop-line-smaller : goal.loop-line-smaller
loop-line-smaller g c = grind (arith, common_steps)
