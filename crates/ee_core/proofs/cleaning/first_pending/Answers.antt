use Rattle.ee_core.proofs.Words.{rules}
use Rattle.ee_core.proofs.PendingCounts.{none_pending, some_pending}
use Rattle.ee_core.proofs.cleaning.first_pending.Goals as goal

pub returns-then-not-is_blank-clause-some : goal.returns-then-not-is_blank-clause-some
returns-then-not-is_blank-clause-some g c = search (rules, some_pending)

pub returns-clause-none : goal.returns-clause-none
returns-clause-none g c = search (rules, none_pending)
