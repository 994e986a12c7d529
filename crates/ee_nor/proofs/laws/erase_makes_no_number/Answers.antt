use Rattle.std.proofs.Common.{rules}
use Rattle.ee_nor.proofs.Bits.{high_stays, makes_no_number}
use Rattle.ee_nor.proofs.laws.erase_makes_no_number.Goals as goal

pub returns : goal.returns
returns c = search (rules, high_stays, makes_no_number)
