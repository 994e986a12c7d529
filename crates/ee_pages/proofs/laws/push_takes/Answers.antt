use Rattle.std.proofs.Common.{rules}
use Rattle.ee_pages.proofs.LiveSteps.{push_takes}
use Rattle.ee_pages.proofs.laws.push_takes.Goals as goal

pub returns : goal.returns
returns c = search (rules, push_takes)
