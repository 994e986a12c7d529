use Rattle.std.proofs.Common.{arith}
use Rattle.ee_index.proofs.IndexReaders.{first_above}
use Rattle.ee_index.proofs.reading.first_above.Goals as goal

pub returns : goal.returns
returns g c =
    rw c.from.ensures
    (first_above _ _ _ c.in-Some.entry.now _ c.entries_above.ensures.above
    c.entries_above.ensures.ordered c.in-Some.ensures.cases.0
    (omega (arith, c.if-prove.false, c.get.ensures.number)))
