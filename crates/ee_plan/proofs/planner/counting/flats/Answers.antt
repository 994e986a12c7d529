use Rattle.std.proofs.Common.{rules}
use Rattle.std.proofs.lemmas.Grind.{get_or_default_zero}
use Rattle.ee_plan.proofs.PlannerLemmas.Counted.{flat_more, flat_within, no_flats}
use Rattle.ee_plan.proofs.planner.counting.flats.Goals as goal

pub loop-back-init : goal.loop-back-init
loop-back-init g c = no_flats c.args.counts.now _ (search rules)

pub overflow_add-index : goal.overflow_add-index
overflow_add-index g c = search (rules, flat_within, get_or_default_zero)

pub loop-back-preserved : goal.loop-back-preserved
loop-back-preserved g c = search (rules, flat_more, get_or_default_zero)
