use Rattle.ee_shell.proofs.DumpsLemmas.Dumps.{whole_import_lem}
use Rattle.ee_shell.proofs.dumps.laws.whole_import_is_a_dump.Goals as goal

pub returns : goal.returns
returns c = whole_import_lem
