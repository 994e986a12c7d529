use Rattle.std.proofs.Common.{rules}
use Rattle.ee_shell.proofs.XcubeLemmas.Pages.{page_more}
use Rattle.ee_shell.proofs.xcube.pages.has_used_page.Goals as goal

pub loop-page-preserved : goal.loop-page-preserved
loop-page-preserved g c =
    page_more (g.F.Flash.device c.args.flash.now) c.loop-page.page c.loop-page.invariant (search rules)
