use Rattle.std.proofs.Common.{rules}
use Rattle.ee_core.proofs.known.Known.read.Goals as goal

pub returns-then-not-is_on : goal.returns-then-not-is_on
returns-then-not-is_on g c = search rules fits 100 parts 0
