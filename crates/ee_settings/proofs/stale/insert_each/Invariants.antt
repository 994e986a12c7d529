use Rattle.std.proofs.Common.{◌≡◌, ◌-◌, drop, length, nat_cmp}
use Rattle.std.specs.BTreeMap.{get}
use Rattle.ee_settings.specs.Stale.{with_found}
use Rattle.ee_settings.proofs.stale.insert_each.Given as goal

-- the rest is left to put
abbrev pub invariant-each : goal.invariant-each
invariant-each g l = record {
  so_far : with_found (drop l.place l.found.items)
      (get nat_cmp l.stored)
      ≡ with_found l.found.items (get nat_cmp l.initial.stored);
}

abbrev pub decreases-each : goal.decreases-each
decreases-each g l = length l.found.items - l.place
