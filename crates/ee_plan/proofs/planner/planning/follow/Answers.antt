use Rattle.std.proofs.Common.{◌+◌, arith, rules}
use Rattle.ee_text.proofs.Public.{passed_on}
use Rattle.ee_plan.proofs.PlannerLemmas.Following.{made_more, refused}
use Rattle.ee_plan.proofs.planner.planning.follow.Goals as goal

pub returns-in_err-make-clause-err : goal.returns-in_err-make-clause-err
returns-in_err-make-clause-err g c = search (rules, passed_on, refused)

pub loop-change-preserved : goal.loop-change-preserved
loop-change-preserved g c =
    let l = c.loop-change in
    record {
      counted = omega (arith, l.invariant.counted);
      so_far =
          made_more c.args.start.now c.args.trace.now l.change-index (l.number + 1)
          c.change-item.result l.store c.make.new.self (omega (arith, l.invariant.counted))
          c.loop-change-test.true l.invariant.so_far c.change-item.is c.in_ok-make.ensures.made
          c.in_ok-make.ensures.fits;
    }
