use Rattle.ee_shell.proofs.DumpsLemmas.Dumps.{import_of_export_lem}
use Rattle.ee_shell.proofs.dumps.laws.import_of_export.Goals as goal

pub returns : goal.returns
returns c = import_of_export_lem
