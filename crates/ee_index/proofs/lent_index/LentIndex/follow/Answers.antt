use Rattle.std.proofs.Common.{rules}
use Rattle.ee_index.proofs.lent_index.LentIndex.follow.Goals as goal

pub returns-else-layout-capacity-clause-small : goal.returns-else-layout-capacity-clause-small
returns-else-layout-capacity-clause-small g c = search rules
