use Rattle.ee_core.proofs.Running.{no_transfer_erases_more_lem}
use Rattle.ee_core.proofs.laws.no_transfer_erases_more.Goals as goal

pub returns : goal.returns
returns c = search no_transfer_erases_more_lem
