use Rattle.std.proofs.Common.{◌≡◌, ◌-◌, drop, length}
use Rattle.ee_plan.specs.Start.{with_addresses}
use Rattle.ee_plan.proofs.starting.push_each.Given as goal

-- the rest is left to push
abbrev pub invariant-each : goal.invariant-each
invariant-each g l = record {
  so_far : with_addresses l.live.items (drop l.place l.found.items)
      ≡ with_addresses l.initial.live.items l.found.items;
}

abbrev pub decreases-each : goal.decreases-each
decreases-each g l = length l.found.items - l.place
