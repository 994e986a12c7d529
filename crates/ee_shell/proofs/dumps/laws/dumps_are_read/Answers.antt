use Rattle.ee_shell.proofs.DumpsLemmas.Dumps.{dumps_are_read_lem}
use Rattle.ee_shell.proofs.dumps.laws.dumps_are_read.Goals as goal

pub returns : goal.returns
returns c = dumps_are_read_lem
