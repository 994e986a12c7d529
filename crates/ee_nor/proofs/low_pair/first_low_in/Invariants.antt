use Rattle.std.proofs.Common.{◌-◌, ◌≤◌}
use Rattle.ee_nor.specs.Nor.{numbers_at}
use Rattle.ee_nor.specs.Pairs.{AreHigh}
use Rattle.ee_nor.proofs.low_pair.first_low_in.Given as goal

abbrev pub invariant-stretches : goal.invariant-stretches
invariant-stretches g l =
    AreHigh (numbers_at (g.N.Nor.nor l.nor) l.page) 0 l.from × (l.from ≤ l.words)

abbrev pub decreases-stretches : goal.decreases-stretches
decreases-stretches g l = l.words - l.from
