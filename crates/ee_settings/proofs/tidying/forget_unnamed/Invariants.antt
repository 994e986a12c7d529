use Rattle.std.proofs.Common.{◌-◌, length}
use Rattle.ee_settings.proofs.Tidied.{InBatch}
use Rattle.ee_settings.proofs.tidying.forget_unnamed.Given as goal

abbrev pub invariant-each : goal.invariant-each
invariant-each g l =
    InBatch l.settings l.found.items l.place l.forgotten (g.V.Variables.device l.initial.store)
    (g.V.Variables.device l.store)

abbrev pub decreases-each : goal.decreases-each
decreases-each g l = length l.found.items - l.place
