use Rattle.std.proofs.Common.{rules}
use Rattle.ee_settings.proofs.TidiedMaps.{none_spent, spent_among}
use Rattle.ee_settings.proofs.laws.tidy_is_spent.Goals as goal

pub returns : goal.returns
returns c = search (rules, spent_among, none_spent)
