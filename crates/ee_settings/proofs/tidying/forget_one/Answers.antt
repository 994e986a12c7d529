use Rattle.std.proofs.Common.{rules}
use Rattle.ee_settings.proofs.Forgetting.{stops_one}
use Rattle.ee_settings.proofs.tidying.forget_one.Goals as goal

pub returns-in-Err-Spent-clause-stopped : goal.returns-in-Err-Spent-clause-stopped
returns-in-Err-Spent-clause-stopped g c = search (rules, stops_one)

pub returns-in-Err-Cut-clause-stopped : goal.returns-in-Err-Cut-clause-stopped
returns-in-Err-Cut-clause-stopped g c = search (rules, stops_one)

pub returns-in-Ok-clause-count : goal.returns-in-Ok-clause-count
returns-in-Ok-clause-count g c = search rules

pub returns-in-Ok-clause-forgotten : goal.returns-in-Ok-clause-forgotten
returns-in-Ok-clause-forgotten g c = search rules
