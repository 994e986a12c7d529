use Rattle.std.proofs.Common.{rules}
use Rattle.ee_settings.proofs.TidiedMaps.{leaves_named}
use Rattle.ee_settings.proofs.laws.tidy_leaves_the_named.Goals as goal

pub returns : goal.returns
returns c = search (rules, leaves_named)
