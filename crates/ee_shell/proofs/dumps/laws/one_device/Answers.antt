use Rattle.ee_shell.proofs.DumpsLemmas.Dumps.{one_device_lem}
use Rattle.ee_shell.proofs.dumps.laws.one_device.Goals as goal

pub returns : goal.returns
returns c = one_device_lem
