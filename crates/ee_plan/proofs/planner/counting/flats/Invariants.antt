use Rattle.ee_plan.specs.Planner.Places.{AreFlats}
use Rattle.ee_plan.proofs.planner.counting.flats.Given as goal

-- what is written of each count holds
abbrev pub invariant-loop-back : goal.invariant-loop-back
invariant-loop-back g l = AreFlats l.counts l.flats.items
