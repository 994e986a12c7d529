use Rattle.std.proofs.Common.{◌-◌}
use Rattle.ee_pages.specs.LiveOrder.{above_of}
use Rattle.ee_settings.proofs.Tidied.{TidiedTo}
use Rattle.ee_settings.proofs.schema.Schema.tidy.Given as goal

abbrev pub invariant-forgetting : goal.invariant-forgetting
invariant-forgetting g l =
    TidiedTo l.self (above_of l.after) l.forgotten (g.V.Variables.device l.initial.store)
    (g.V.Variables.device l.store)

abbrev pub decreases-forgetting : goal.decreases-forgetting
decreases-forgetting g l = 65535 - above_of l.after
