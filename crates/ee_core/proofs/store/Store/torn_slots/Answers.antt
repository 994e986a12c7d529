use Rattle.ee_core.proofs.Words.{rules}
use Rattle.ee_core.proofs.store.Store.torn_slots.Goals as goal

pub returns : goal.returns
returns g c = search rules
