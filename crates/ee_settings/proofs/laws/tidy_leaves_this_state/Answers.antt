use Rattle.std.proofs.Common.{rules}
use Rattle.ee_settings.proofs.TidiedMaps.{leaves_state}
use Rattle.ee_settings.proofs.laws.tidy_leaves_this_state.Goals as goal

pub returns : goal.returns
returns c = search (rules, leaves_state)
