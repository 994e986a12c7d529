use Rattle.ee_shell.proofs.PartLemmas.Dumps.{import_again_lem}
use Rattle.ee_shell.proofs.part.laws.import_of_export.Goals as goal

pub returns : goal.returns
returns c = import_again_lem
