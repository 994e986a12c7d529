use Rattle.std.proofs.Common.{rules}
use Rattle.ee_index.proofs.InOrder.{found_or_not}
use Rattle.ee_index.proofs.reading.has.Goals as goal

pub returns : goal.returns
returns g c = search (rules, found_or_not)
