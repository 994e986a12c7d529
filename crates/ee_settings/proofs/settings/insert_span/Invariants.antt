use Rattle.std.proofs.Common.{◌+◌, ◌-◌}
use Rattle.ee_settings.proofs.Addresses.{PutBelow}
use Rattle.ee_settings.proofs.settings.insert_span.Given as goal

abbrev pub invariant-each : goal.invariant-each
invariant-each g l = PutBelow l.first l.number l.last l.initial.addresses l.addresses

abbrev pub decreases-each : goal.decreases-each
decreases-each g l = l.last + 1 - l.number
