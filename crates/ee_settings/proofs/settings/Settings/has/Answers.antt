use Rattle.std.proofs.Common.{rules}
use Rattle.ee_settings.proofs.settings.Settings.has.Goals as goal

pub returns : goal.returns
returns g c = search rules
