use Rattle.ee_shell.proofs.PartLemmas.Hexes.{hex_import_of_export_lem}
use Rattle.ee_shell.proofs.part.laws.hex_import_of_export.Goals as goal

pub returns : goal.returns
returns c = hex_import_of_export_lem
