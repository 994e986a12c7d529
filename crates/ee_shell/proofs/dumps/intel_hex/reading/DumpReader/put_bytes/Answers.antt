use Rattle.std.proofs.Common.{arith}
use Rattle.std.proofs.lemmas.Grind.{common_steps}
use Rattle.ee_shell.proofs.dumps.intel_hex.reading.DumpReader.put_bytes.Goals as goal

pub returns-then-not-put-clause-refused : goal.returns-then-not-put-clause-refused
returns-then-not-put-clause-refused g c = grind (arith, common_steps)

pub loop-at-preserved : goal.loop-at-preserved
loop-at-preserved g c = grind (arith, common_steps)

pub returns-clause-taken : goal.returns-clause-taken
returns-clause-taken g c = grind (arith, common_steps)
