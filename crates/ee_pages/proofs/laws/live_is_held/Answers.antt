use Rattle.std.proofs.Common.{rules}
use Rattle.ee_pages.proofs.Rescues.{live_is_held}
use Rattle.ee_pages.proofs.laws.live_is_held.Goals as goal

pub returns : goal.returns
returns c = search (rules, live_is_held)
