use Rattle.std.proofs.Common.{rules}
use Rattle.ee_index.proofs.LentLists.{put_in}
use Rattle.ee_index.proofs.lent_list.put_in.Goals as goal

pub returns-clause-entries : goal.returns-clause-entries
returns-clause-entries c = search (rules, put_in)
