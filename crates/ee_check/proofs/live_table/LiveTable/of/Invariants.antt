use Rattle.std.proofs.Common.{◌≡◌, ◌++◌}
use Rattle.std.specs.Ordering.{nat_cmp}
use Rattle.std.specs.List.Sorted.{IsStrictlySortedBy}
use Rattle.ee_check.proofs.live_table.LiveTable.of.Given as goal

-- the addresses so far are in the table, and those left are above them
abbrev pub invariant-loop-address : goal.invariant-loop-address
invariant-loop-address g l =
    (l.table ++ l.address-iterator ≡ l.live.keys)
    × IsStrictlySortedBy nat_cmp (l.table ++ l.address-iterator)
