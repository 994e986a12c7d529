use Rattle.ee_core.proofs.Words.{rules}
use Rattle.ee_core.proofs.puts.values_put.Goals as goal

pub returns-else-forgets : goal.returns-else-forgets
returns-else-forgets g = search rules fits 100 parts 0
