use Rattle.std.proofs.Common.{arith}
use Rattle.std.proofs.lemmas.Grind.{common_steps}
use Rattle.ee_settings.proofs.stale.entry_numbers.Goals as goal

pub loop-stale-preserved : goal.loop-stale-preserved
loop-stale-preserved g c = grind (arith, common_steps)

pub returns : goal.returns
returns g c = grind (arith, common_steps)
