use Rattle.std.proofs.Common.{rules}
use Rattle.ee_pages.proofs.marking.mark.Goals as goal

pub returns-clause-present : goal.returns-clause-present
returns-clause-present g c = search rules

pub returns-clause-done : goal.returns-clause-done
returns-clause-done g c = search rules

pub returns-clause-cut : goal.returns-clause-cut
returns-clause-cut g c = search rules
