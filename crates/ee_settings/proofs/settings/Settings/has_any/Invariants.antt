use Rattle.std.proofs.Common.{◌+◌, ◌-◌}
use Rattle.ee_settings.proofs.Addresses.{NoneBelow}
use Rattle.ee_settings.specs.Setting.{is_named}
use Rattle.ee_settings.proofs.settings.Settings.has_any.Given as goal

abbrev pub invariant-each : goal.invariant-each
invariant-each g l = NoneBelow l.first l.number (is_named l.self)

abbrev pub decreases-each : goal.decreases-each
decreases-each g l = l.last + 1 - l.number
