use Rattle.std.proofs.Common.{rules}
use Rattle.ee_pages.proofs.LiveCounts.{change_counts}
use Rattle.ee_pages.proofs.laws.change_counts.Goals as goal

pub returns : goal.returns
returns c = search (rules, change_counts)
