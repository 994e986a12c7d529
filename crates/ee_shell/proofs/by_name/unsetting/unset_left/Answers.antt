use Rattle.std.proofs.Common.{rules}
use Rattle.ee_shell.proofs.by_name.unsetting.unset_left.Goals as goal

pub returns-clause-unset : goal.returns-clause-unset
returns-clause-unset g c = search rules
