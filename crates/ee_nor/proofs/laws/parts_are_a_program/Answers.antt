use Rattle.std.proofs.Common.{rules}
use Rattle.ee_nor.proofs.Bits.{parts_are_a_program}
use Rattle.ee_nor.proofs.laws.parts_are_a_program.Goals as goal

pub returns : goal.returns
returns c = search (rules, parts_are_a_program)
