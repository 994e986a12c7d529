use Rattle.std.proofs.Common.{rules}
use Rattle.ee_pages.proofs.LiveSteps.{mark_keeps_live}
use Rattle.ee_pages.proofs.laws.mark_keeps_live.Goals as goal

pub returns : goal.returns
returns c = search (rules, mark_keeps_live)
