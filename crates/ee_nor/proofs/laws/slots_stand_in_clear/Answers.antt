use Rattle.ee_nor.specs.Coded.Clear.{slots_stand_in_clear}
use Rattle.ee_nor.proofs.laws.slots_stand_in_clear.Goals as goal

pub returns : goal.returns
returns c = slots_stand_in_clear
