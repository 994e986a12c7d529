use Rattle.std.proofs.Common.{rules}
use Rattle.ee_pages.proofs.Rescues.{live_is_rescued}
use Rattle.ee_pages.proofs.laws.live_is_rescued.Goals as goal

pub returns : goal.returns
returns c = search (rules, live_is_rescued)
