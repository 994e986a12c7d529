use Rattle.ee_core.proofs.Words.{rules}
use Rattle.ee_core.proofs.Several.{one_listed}
use Rattle.ee_core.proofs.store.StoreVariables.write_all.Goals as goal

pub write_several-requires-clause-on : goal.write_several-requires-clause-on
write_several-requires-clause-on g c = search rules

pub returns-clause-writes : goal.returns-clause-writes
returns-clause-writes g c = search rules

pub returns-then-changes-eq1-clause-writes : goal.returns-then-changes-eq1-clause-writes
returns-then-changes-eq1-clause-writes g c = search (rules, one_listed)
