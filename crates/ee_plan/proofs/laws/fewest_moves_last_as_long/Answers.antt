use Rattle.ee_plan.proofs.Lasting.{fewest_moves_last_as_long_lem}
use Rattle.ee_plan.proofs.laws.fewest_moves_last_as_long.Goals as goal

pub returns : goal.returns
returns c =
    λ start trace calls old new made none where_from.
    fewest_moves_last_as_long_lem start trace calls old new made none where_from
