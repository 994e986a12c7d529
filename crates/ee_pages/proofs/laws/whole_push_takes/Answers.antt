use Rattle.std.proofs.Common.{rules}
use Rattle.ee_pages.proofs.LiveSteps.{whole_push_takes}
use Rattle.ee_pages.proofs.laws.whole_push_takes.Goals as goal

pub returns : goal.returns
returns c = search (rules, whole_push_takes)
