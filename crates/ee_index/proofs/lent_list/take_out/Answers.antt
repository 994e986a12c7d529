use Rattle.std.proofs.Common.{rules}
use Rattle.ee_index.proofs.LentLists.{taken_out}
use Rattle.ee_index.proofs.lent_list.take_out.Goals as goal

pub returns-clause-entries : goal.returns-clause-entries
returns-clause-entries c = search (rules, taken_out)
