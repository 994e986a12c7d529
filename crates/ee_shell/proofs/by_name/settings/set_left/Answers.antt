use Rattle.std.proofs.Common.{rules}
use Rattle.ee_shell.proofs.by_name.settings.set_left.Goals as goal

pub returns-clause-set : goal.returns-clause-set
returns-clause-set g c = search rules
