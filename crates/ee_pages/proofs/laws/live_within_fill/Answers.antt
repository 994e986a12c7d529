use Rattle.std.proofs.Common.{rules}
use Rattle.ee_pages.proofs.LiveCounts.{live_within_fill}
use Rattle.ee_pages.proofs.laws.live_within_fill.Goals as goal

pub returns : goal.returns
returns c = search (rules, live_within_fill)
