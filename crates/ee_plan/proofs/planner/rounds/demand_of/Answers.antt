use Rattle.std.proofs.Common.{◌≡◌, ◌*◌, ◌<◌, ◌≤◌, length, arith, rules}
use Rattle.ee_plan.proofs.PlannerLemmas.Answering.{demand_of_nothing, demand_over, demand_of_all}
use Rattle.ee_plan.proofs.PlannerLemmas.Counted.{are_rounds}
use Rattle.ee_plan.proofs.planner.rounds.demand_of.Goals as goal
use Rattle.ee_plan.proofs.planner.rounds.demand_of.Goals.{then-length-total, else-length-total}

pub returns-then-is_empty : goal.returns-then-is_empty
returns-then-is_empty g c =
    demand_of_nothing c.args.slots c.args.runs c.args.trace.now (search rules)

pub first_over-requires-clause-rounds : goal.first_over-requires-clause-rounds
first_over-requires-clause-rounds g c =
    are_rounds c.args.trace.now c.args.counts.now c.requires.counts (search rules)

pub transfers-requires-clause-rounds : goal.transfers-requires-clause-rounds
transfers-requires-clause-rounds g c =
    are_rounds c.args.trace.now c.args.counts.now c.requires.counts (search rules)

pub returns-in-Some : goal.returns-in-Some
returns-in-Some g c =
    let within : c.if-length-total.last ≤ c.args.runs * length c.args.trace.now =
    elim c.if-length-total.branch
    [ then-length-total w ↦ omega arith | else-length-total w ↦ omega arith ] in
    demand_over c.args.counts.now c.args.slots c.args.runs c.if-length-total.last c.in-Some.number
    c.args.trace.now c.requires.counts (search rules) within
    c.in-Some.ensures.within c.in-Some.ensures.found

pub returns-in-None : goal.returns-in-None
returns-in-None g c =
    let cut : c.if-length-total.last < c.args.runs * length c.args.trace.now
    → c.if-length-total.last ≡ 2 * length c.args.trace.now =
    λ h. elim c.if-length-total.branch
    [ then-length-total w ↦ omega arith | else-length-total w ↦ omega arith ] in
    demand_of_all c.args.counts.now c.args.slots c.args.runs c.if-length-total.last
    c.transfers.result c.args.trace.now c.requires.counts (search rules) cut
    c.in-None.ensures.none c.transfers.ensures.made c.transfers.ensures.all
