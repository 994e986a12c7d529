use Rattle.std.proofs.Common.{rules}
use Rattle.ee_pages.proofs.Rescues.{held_is_rescued}
use Rattle.ee_pages.proofs.laws.held_is_rescued.Goals as goal

pub returns : goal.returns
returns c = search (rules, held_is_rescued)
