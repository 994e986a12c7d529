use Rattle.std.proofs.Common.{rules}
use Rattle.ee_shell.proofs.DumpsLemmas.Sought.{all_free, page_more}
use Rattle.ee_shell.proofs.dumps.places.first_sought.Goals as goal

pub loop-page-preserved : goal.loop-page-preserved
loop-page-preserved g c =
    page_more c.args.sought (g.F.Flash.device c.args.flash.now) c.loop-page.page
    c.loop-page.invariant (search rules)

pub returns-clause-none : goal.returns-clause-none
returns-clause-none g c =
    all_free c.args.sought (g.F.Flash.device c.args.flash.now) c.loop-page.page
    (g.met.F.Flash.formed c.args.flash.now) (search rules) c.loop-page.invariant
