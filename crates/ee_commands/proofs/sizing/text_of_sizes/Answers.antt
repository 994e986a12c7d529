use Rattle.std.proofs.Common.{arith}
use Rattle.std.proofs.lemmas.Grind.{common_steps}
use Rattle.ee_commands.proofs.Sizes.{sizes_grow}
use Rattle.ee_commands.proofs.sizing.text_of_sizes.Goals as goal

pub loop-demand-preserved : goal.loop-demand-preserved
loop-demand-preserved g c =
    let l = c.loop-demand in
    record {
      counted = omega arith;
      so_far =
          sizes_grow c.args.words c.args.cycles c.args.changes l.pages l.demand-index
          c.args.demands.now _ l.text.items c.push_size.new.out.items
          c.loop-demand-test.true l.invariant.counted l.invariant.so_far c.in_ok-push_size.ensures;
    }

pub returns : goal.returns
returns g c = grind (arith, common_steps)
