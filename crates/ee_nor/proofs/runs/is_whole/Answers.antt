use Rattle.std.proofs.Common.{rules}
use Rattle.ee_nor.proofs.Halves.{sums_told}
use Rattle.ee_nor.proofs.runs.is_whole.Goals as goal

pub returns : goal.returns
returns c = search (rules, sums_told)
