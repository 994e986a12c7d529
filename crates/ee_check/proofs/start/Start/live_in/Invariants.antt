use Rattle.std.proofs.Common.{◌≡◌, ◌++◌}
use Rattle.std.specs.Ordering.{nat_cmp}
use Rattle.std.specs.List.Sorted.{IsStrictlySortedBy}
use Rattle.ee_check.proofs.start.Start.live_in.Given as goal

-- the addresses so far are copied, and those left are above them
abbrev pub invariant-loop-address : goal.invariant-loop-address
invariant-loop-address g l =
    (l.copy.keys ++ l.address-iterator ≡ l.self.live)
    × IsStrictlySortedBy nat_cmp (l.copy.keys ++ l.address-iterator)
