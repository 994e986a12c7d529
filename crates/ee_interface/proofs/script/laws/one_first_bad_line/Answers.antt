use Rattle.ee_interface.proofs.ScriptLemmas.Reading.{one_first_bad_line_lem}
use Rattle.ee_interface.proofs.script.laws.one_first_bad_line.Goals as goal

pub returns : goal.returns
returns c = one_first_bad_line_lem
