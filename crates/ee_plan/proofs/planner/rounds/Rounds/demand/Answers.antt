use Rattle.std.proofs.Common.{rules}
use Rattle.ee_plan.proofs.PlannerLemmas.Answering.{answers_fits, answers_not_fitting}
use Rattle.ee_plan.proofs.planner.rounds.Rounds.demand.Goals as goal

pub returns-clause-fits : goal.returns-clause-fits
returns-clause-fits g c =
    λ keeps. answers_fits c.args.slots c.args.self.now c.demand_of.result (search rules) keeps

pub returns-clause-names : goal.returns-clause-names
returns-clause-names g c =
    λ n first.
    answers_not_fitting c.args.slots c.args.self.now c.demand_of.result (search rules) n first
