use Rattle.std.proofs.Common.{ℕ, ◌-◌, Option, Some, None, drop}
use Rattle.ee_core.specs.CallSteps.{map_in}
use Rattle.ee_core.specs.Course.{GoesOver, last_given}
use Rattle.ee_core.proofs.copying.next_given.Given as goal

-- it goes on where it was
abbrev pub invariant-batches : goal.invariant-batches
invariant-batches g l =
    GoesOver (map_in l.layout.side (g.F.Flash.device l.flash)) record {
      after =
          last_given l.fn.batch.found.items l.fn.given;
      ready = drop l.given l.batch.found.items;
      through = l.batch.through;
    }

-- the addresses behind a batch
abbrev addresses_behind : Option ℕ → ℕ
addresses_behind None = 0
addresses_behind (Some through) = 65536 - through

abbrev pub decreases-batches : goal.decreases-batches
decreases-batches g l = addresses_behind l.batch.through
