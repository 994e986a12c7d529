use Rattle.ee_core.proofs.Words.{rules}
use Rattle.ee_core.proofs.PendingCounts.{as_many, at_end, none_yet, one_more}
use Rattle.ee_core.proofs.SetPages.{first_below}
use Rattle.ee_core.proofs.cleaning.count_pending.Goals as goal

pub pages-init : goal.pages-init
pages-init g c = search (rules, none_yet)

pub overflow_add-count : goal.overflow_add-count
overflow_add-count g c = search (rules, first_below)

pub pages-preserved : goal.pages-preserved
pages-preserved g c = search (rules, one_more, as_many)

pub returns : goal.returns
returns g c = search (rules, at_end)
