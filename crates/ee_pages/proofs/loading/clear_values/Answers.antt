use Rattle.std.proofs.Common.{arith}
use Rattle.ee_pages.proofs.ToldLists.{cleared_next}
use Rattle.ee_pages.proofs.loading.clear_values.Goals as goal

pub loop-at-preserved : goal.loop-at-preserved
loop-at-preserved c =
    cleared_next c.loop-at.entries c.args.entries.now c.loop-at.at c.index-entries-at.result
    (omega (arith, c.loop-at-test.true, c.loop-at.auto.at-end)) c.loop-at.invariant
