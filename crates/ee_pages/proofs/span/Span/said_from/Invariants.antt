use Rattle.std.proofs.Common.{◌-◌, ◌≤◌}
use Rattle.ee_pages.specs.Spans.{AreSaidTo}
use Rattle.ee_pages.proofs.span.Span.said_from.Given as goal

abbrev pub invariant-said : goal.invariant-said
invariant-said l = record { said : AreSaidTo l.self l.said_to; few : l.said_to ≤ l.self.count }

abbrev pub decreases-said : goal.decreases-said
decreases-said l = l.self-inside.count - l.said_to
