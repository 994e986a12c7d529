use Rattle.std.proofs.Common.{rules}
use Rattle.ee_plan.proofs.Wearing.{fewest_transfers_wear_lem}
use Rattle.ee_plan.proofs.laws.fewest_transfers_wear.Goals as goal

pub returns : goal.returns
returns c = search (rules, fewest_transfers_wear_lem)
