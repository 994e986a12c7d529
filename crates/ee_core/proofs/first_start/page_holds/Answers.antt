use Rattle.std.proofs.Common.{rules}
use Rattle.ee_core.proofs.first_start.page_holds.Goals as goal

pub loop-at-init : goal.loop-at-init
loop-at-init g c = search rules fits 100 parts 0
