use Rattle.ee_plan.proofs.Lasting.{fewest_moves_last_lem}
use Rattle.ee_plan.proofs.laws.fewest_moves_last.Goals as goal

pub returns : goal.returns
returns c = λ start trace calls old new made. fewest_moves_last_lem start trace calls old new made
