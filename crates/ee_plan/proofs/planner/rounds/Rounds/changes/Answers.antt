use Rattle.std.proofs.Common.{rules}
use Rattle.ee_plan.proofs.PlannerLemmas.Demanded.{length-repeated}
use Rattle.ee_plan.proofs.planner.rounds.Rounds.changes.Goals as goal

pub returns-clause-changes : goal.returns-clause-changes
returns-clause-changes g c = search (rules, length-repeated)
