use Rattle.std.proofs.Common.{rules}
use Rattle.ee_index.proofs.entering.enter.Goals as goal

pub returns-in_ok-insert-in-Element : goal.returns-in_ok-insert-in-Element
returns-in_ok-insert-in-Element g c = search rules fits 100 parts 0
