use Rattle.std.proofs.Common.{sym, arith}
use Rattle.ee_pages.specs.Sets.{set_of}
use Rattle.ee_pages.proofs.RescueReads.{bad_in_pages-zero, pages_more}
use Rattle.ee_pages.proofs.rescue.bad_in_set.Goals as goal

pub loop-page-init : goal.loop-page-init
loop-page-init g c = record { bad = sym (bad_in_pages-zero _ _); within = omega arith }

pub loop-page-preserved : goal.loop-page-preserved
loop-page-preserved g c =
    let device = g.F.Flash.device c.args.flash.now in
    let more =
    pages_more device.size (set_of c.args.side device) c.loop-page.page c.loop-page.bad
    c.bad_in_page-bad.result c.bad_in_page-bad.ensures.bad c.bad_in_page-bad.ensures.within
    c.loop-page.invariant.bad c.loop-page.invariant.within in
    record { bad = more.0; within = more.1 }
