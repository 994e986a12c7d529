use Rattle.ee_interface.proofs.ScriptLemmas.Reading.{scripts_are_good_lem}
use Rattle.ee_interface.proofs.script.laws.scripts_are_good.Goals as goal

pub returns : goal.returns
returns c = scripts_are_good_lem
