use Rattle.std.proofs.Common.{rules}
use Rattle.ee_nor.proofs.Bits.{torn_is_told}
use Rattle.ee_nor.proofs.laws.torn_is_told.Goals as goal

pub returns : goal.returns
returns c = search (rules, torn_is_told)
