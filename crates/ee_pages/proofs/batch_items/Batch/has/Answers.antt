use Rattle.std.proofs.Common.{rules}
use Rattle.std.proofs.lemmas.Bool.{eqb-false, eqb-true}
use Rattle.ee_pages.proofs.BatchLists.{length_named, named_at}
use Rattle.ee_pages.proofs.batch_items.Batch.has.Goals as goal

pub returns-then-place-self-clause-yes : goal.returns-then-place-self-clause-yes
returns-then-place-self-clause-yes c = search (rules, eqb-true, named_at, length_named)

pub returns-then-place-self-clause-no : goal.returns-then-place-self-clause-no
returns-then-place-self-clause-no c = search (rules, named_at, eqb-false)

pub returns-else-place-self-clause-no : goal.returns-else-place-self-clause-no
returns-else-place-self-clause-no c = search (rules, length_named)
