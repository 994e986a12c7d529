use Rattle.std.proofs.Common.{◌+◌, ◌-◌, ◌≤◌}
use Rattle.ee_plan.specs.Planner.Places.{IsOnWay, count_after}
use Rattle.ee_plan.proofs.planner.walking.leap.Given as goal

-- it stands where it says, and so does the mark, no further
abbrev pub invariant-leaping : goal.invariant-leaping
invariant-leaping g l = record {
  walked : IsOnWay (count_after l.counts) l.slots l.total l.walk;
  marked : IsOnWay (count_after l.counts) l.slots l.total l.mark;
  further : l.mark.place ≤ l.walk.place;
  more : l.mark.made ≤ l.walk.made;
  slow : l.walk.made + l.mark.place ≤ l.walk.place + l.mark.made;
}

abbrev pub decreases-leaping : goal.decreases-leaping
decreases-leaping g l = l.total - l.walk.place
