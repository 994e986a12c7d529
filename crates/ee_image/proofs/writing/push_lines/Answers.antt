use Rattle.std.proofs.Common.{arith, ◌++◌, take, rules}
use Rattle.std.proofs.lemmas.Grind.{common_steps}
use Rattle.ee_text.specs.Line.{line_of, IsLonger}
use Rattle.ee_text.proofs.Public.{longer_still, on_err_anyway}
use Rattle.ee_image.specs.Text.{page_lines, size_text}
use Rattle.ee_image.proofs.Growing.{image_grows}
use Rattle.ee_image.proofs.writing.push_lines.Goals as goal

pub returns-in_err-push_page-clause-err : goal.returns-in_err-push_page-clause-err
returns-in_err-push_page-clause-err g c =
    let device = g.F.Flash.device c.args.flash.now in
    on_err_anyway c.from_residual-in_err-push_page.result
    (IsLonger c.args.out.now.items c.push_page.new.out.items)
    (longer_still c.args.out.now.items c.loop-page.out.items c.push_page.new.out.items
    (line_of (size_text device.size)
    ++ page_lines (take c.loop-page.page device.image) (take c.loop-page.page device.wear))
    c.loop-page.invariant c.in_err-push_page.ensures.err)

pub loop-page-preserved : goal.loop-page-preserved
loop-page-preserved g c =
    image_grows (g.F.Flash.device c.args.flash.now) c.loop-page.page c.args.out.now.items
    c.loop-page.out.items c.push_page.new.out.items (g.met.F.Flash.formed c.args.flash.now)
    (search rules) c.loop-page.invariant c.in_ok-push_page.ensures.ok

pub returns-clause-ok : goal.returns-clause-ok
returns-clause-ok g c = grind (arith, common_steps)
