use Rattle.std.proofs.Common.{rules}
use Rattle.ee_settings.proofs.TidiedMaps.{as_run}
use Rattle.ee_settings.proofs.laws.tidy_is_a_run.Goals as goal

pub returns : goal.returns
returns c = search (rules, as_run)
