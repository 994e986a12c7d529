use Rattle.ee_core.proofs.Words.{rules}
use Rattle.ee_core.proofs.OpenedPages.{free_behind, free_within}
use Rattle.ee_core.proofs.writing.free_slot.Goals as goal

pub returns-then-used-slots-clause-page : goal.returns-then-used-slots-clause-page
returns-then-used-slots-clause-page g c = search (rules, free_behind)

pub returns-then-used-slots-clause-place : goal.returns-then-used-slots-clause-place
returns-then-used-slots-clause-place g c = search (rules, free_behind)

pub returns-clause-place : goal.returns-clause-place
returns-clause-place g c = search (rules, free_within)
