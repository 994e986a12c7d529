use Rattle.std.proofs.Common.{rules}
use Rattle.ee_settings.proofs.TidiedMaps.{keeps_readings}
use Rattle.ee_settings.proofs.laws.tidy_keeps_readings.Goals as goal

pub returns : goal.returns
returns c = search (rules, keeps_readings)
