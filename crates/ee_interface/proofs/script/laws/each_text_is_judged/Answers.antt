use Rattle.ee_interface.proofs.ScriptLemmas.Judging.{script_or_bad_line}
use Rattle.ee_interface.proofs.script.laws.each_text_is_judged.Goals as goal

pub returns : goal.returns
returns c = script_or_bad_line
