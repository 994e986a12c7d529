use Rattle.std.proofs.Common.{rules, subst}
use Rattle.ee_plan.specs.Planner.Rounds.{IsDemand, unused_situation}
use Rattle.ee_commands.proofs.Sizes.{demands_grow}
use Rattle.ee_commands.proofs.SizeWears.{each_wears}
use Rattle.ee_commands.proofs.sizing.demands_of.Goals as goal

pub loop-pages-preserved : goal.loop-pages-preserved
loop-pages-preserved g c =
    let l = c.loop-pages in
    let one =
    subst (λ slots. IsDemand (unused_situation slots) c.args.rounds.now c.demand.result)
    c.slots_of.ensures c.demand.ensures.demand in
    record {
      so_far =
          rw c.in_ok-push.ensures.items
          (demands_grow c.args.words c.args.rounds.now 1 l.pages l.demands.items
          c.demand.result l.invariant.so_far l.invariant.counted one);
      counted = search rules;
    }

pub returns-clause-wears : goal.returns-clause-wears
returns-clause-wears g c =
    each_wears c.args.words c.args.rounds.now 1 c.loop-pages.demands.items
    c.loop-pages.invariant.so_far
