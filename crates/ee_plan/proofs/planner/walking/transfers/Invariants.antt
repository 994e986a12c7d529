use Rattle.std.proofs.Common.{◌-◌}
use Rattle.ee_plan.specs.Planner.Places.{IsOnWay, count_after}
use Rattle.ee_plan.proofs.planner.walking.transfers.Given as goal

-- it stands where it says
abbrev pub invariant-walking : goal.invariant-walking
invariant-walking g l = IsOnWay (count_after l.counts) l.slots l.total l.walk

abbrev pub decreases-walking : goal.decreases-walking
decreases-walking g l = l.total - l.walk.place
