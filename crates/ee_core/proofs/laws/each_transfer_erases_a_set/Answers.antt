use Rattle.ee_core.proofs.Running.{each_transfer_erases_a_set_lem}
use Rattle.ee_core.proofs.laws.each_transfer_erases_a_set.Goals as goal

pub returns : goal.returns
returns c = search each_transfer_erases_a_set_lem
