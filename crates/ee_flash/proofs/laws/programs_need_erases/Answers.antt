use Rattle.std.proofs.Common.{rules}
use Rattle.ee_flash.proofs.Endurance.{programs_need_erases_lem}
use Rattle.ee_flash.proofs.laws.programs_need_erases.Goals as goal

pub returns : goal.returns
returns c = search (rules, programs_need_erases_lem)
