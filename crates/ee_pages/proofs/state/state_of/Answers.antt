use Rattle.std.proofs.Common.{rules}
use Rattle.ee_pages.proofs.state.state_of.Goals as goal

pub returns-then-is_written-3 : goal.returns-then-is_written-3
returns-then-is_written-3 g c = search rules fits 100 parts 0
