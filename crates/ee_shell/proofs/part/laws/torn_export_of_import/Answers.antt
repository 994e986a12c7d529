use Rattle.ee_shell.proofs.PartLemmas.Dumps.{torn_export_of_import_lem}
use Rattle.ee_shell.proofs.part.laws.torn_export_of_import.Goals as goal

pub returns : goal.returns
returns c = torn_export_of_import_lem
