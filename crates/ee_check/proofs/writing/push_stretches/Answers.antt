use Rattle.std.proofs.Common.{arith, take}
use Rattle.std.proofs.lemmas.Grind.{common_steps}
use Rattle.ee_text.specs.Line.{IsLonger}
use Rattle.ee_text.proofs.Public.{longer_still, on_err_anyway}
use Rattle.ee_check.specs.Text.{stretch_lines}
use Rattle.ee_check.proofs.writing.push_stretches.Goals as goal

pub returns-in_err-push_stretch-clause-err : goal.returns-in_err-push_stretch-clause-err
returns-in_err-push_stretch-clause-err g c =
    on_err_anyway c.from_residual.result
    (IsLonger c.args.out.now.items c.push_stretch.new.out.items)
    (longer_still c.args.out.now.items c.loop-stretch.out.items c.push_stretch.new.out.items
    (stretch_lines (take c.loop-stretch.stretch-index c.args.stretches.now))
    c.loop-stretch.invariant c.in_err-push_stretch.ensures.err)

pub loop-stretch-preserved : goal.loop-stretch-preserved
loop-stretch-preserved g c = grind (arith, common_steps)

pub returns-clause-ok : goal.returns-clause-ok
returns-clause-ok g c = grind (arith, common_steps)
