use Rattle.ee_core.proofs.Words.{rules}
use Rattle.ee_core.proofs.Several.{puts_within}
use Rattle.ee_core.proofs.store.Store.is_full_for_all.Goals as goal

pub returns-then-puts-slots : goal.returns-then-puts-slots
returns-then-puts-slots g c = search (rules, puts_within)
