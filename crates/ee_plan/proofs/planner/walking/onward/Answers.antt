use Rattle.std.proofs.Common.{◌+◌, ◌-◌, ◌/◌, ◌≤◌, arith, rules}
use Rattle.std.proofs.lemmas.Grind.{common_steps}
use Rattle.std.proofs.Math.Nat.{div-mul-le_self, mul-le-mul_right}
use Rattle.ee_plan.specs.Planner.Places.{count_after}
use Rattle.ee_plan.proofs.PlannerLemmas.Stations.{beyond, stepped}
use Rattle.ee_plan.proofs.planner.walking.onward.Goals as goal
use Rattle.ee_plan.proofs.planner.walking.onward.Goals.{then-more-left, else-more-left}

pub overflow_add-result : goal.overflow_add-result
overflow_add-result g c = grind (arith, common_steps, mul-le-mul_right, div-mul-le_self)

pub overflow_mul-result : goal.overflow_mul-result
overflow_mul-result g c = grind (arith, common_steps, mul-le-mul_right, div-mul-le_self)

pub returns-clause-walked : goal.returns-clause-walked
returns-clause-walked g c =
    let step = c.saturating_sub-step.result + 1 in
    let left : c.if-more-left.times ≤ (c.args.total - c.args.walk.place) / step =
    elim c.if-more-left.branch
    [ then-more-left w ↦ omega arith | else-more-left w ↦ omega arith ] in
    let more : c.if-more-left.times ≤ c.flat.result / step + 1 =
    elim c.if-more-left.branch
    [ then-more-left w ↦ omega arith | else-more-left w ↦ omega arith ] in
    stepped (count_after c.args.counts.now) c.args.slots c.args.total c.flat.result step
    c.if-more-left.times c.args.walk _ c.requires.walked
    (search rules) c.flat.ensures more left (search rules) (search rules)

pub returns-clause-last : goal.returns-clause-last
returns-clause-last g c = search (rules, beyond)
