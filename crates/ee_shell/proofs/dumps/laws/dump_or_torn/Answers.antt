use Rattle.ee_shell.proofs.DumpsLemmas.Dumps.{dump_or_torn_lem}
use Rattle.ee_shell.proofs.dumps.laws.dump_or_torn.Goals as goal

pub returns : goal.returns
returns c = dump_or_torn_lem
