use Rattle.std.proofs.Common.{rules, arith}
use Rattle.ee_index.proofs.Numbering.{placed}
use Rattle.ee_index.proofs.entries.place_in.Goals as goal

pub returns-then-eq-clause-listed : goal.returns-then-eq-clause-listed
returns-then-eq-clause-listed c =
    placed _ _ _ _ (omega arith) c.index-puts-place.is (search rules) c.entries.invariant
