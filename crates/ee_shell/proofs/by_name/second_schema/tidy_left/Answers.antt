use Rattle.std.proofs.Common.{rules}
use Rattle.ee_shell.proofs.by_name.second_schema.tidy_left.Goals as goal

pub returns-clause-tidied : goal.returns-clause-tidied
returns-clause-tidied g c = search rules
