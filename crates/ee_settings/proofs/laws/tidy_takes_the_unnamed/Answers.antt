use Rattle.std.proofs.Common.{rules}
use Rattle.ee_settings.proofs.TidiedMaps.{takes_unnamed}
use Rattle.ee_settings.proofs.laws.tidy_takes_the_unnamed.Goals as goal

pub returns : goal.returns
returns c = search (rules, takes_unnamed)
