use Rattle.ee_shell.proofs.DumpsLemmas.Dumps.{export_of_import_lem}
use Rattle.ee_shell.proofs.dumps.laws.export_of_import.Goals as goal

pub returns : goal.returns
returns c = export_of_import_lem
