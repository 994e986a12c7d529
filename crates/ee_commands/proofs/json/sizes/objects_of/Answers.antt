use Rattle.std.proofs.Common.{arith}
use Rattle.std.proofs.lemmas.Grind.{common_steps}
use Rattle.ee_commands.proofs.Objects.{size_items_grow}
use Rattle.ee_commands.proofs.json.sizes.objects_of.Goals as goal

pub loop-demand-preserved : goal.loop-demand-preserved
loop-demand-preserved g c =
    let l = c.loop-demand in
    record {
      counted = omega arith;
      so_far =
          size_items_grow c.args.words c.args.cycles c.args.changes l.pages l.demand-index
          c.args.demands.now _ l.text.items c.push_size.new.out.items
          c.loop-demand-test.true l.invariant.counted l.invariant.so_far c.in_ok-push_size.ensures;
    }

pub returns : goal.returns
returns g c = grind (arith, common_steps)
