use Rattle.std.proofs.Common.{arith, rules}
use Rattle.std.proofs.lemmas.Grind.{common_steps}
use Rattle.ee_commands.proofs.Objects.{wear_grows}
use Rattle.ee_commands.proofs.json.wear.push_counts.Goals as goal

pub pages-preserved : goal.pages-preserved
pages-preserved g c = search (rules, wear_grows)

pub returns : goal.returns
returns g c = grind (arith, common_steps)
