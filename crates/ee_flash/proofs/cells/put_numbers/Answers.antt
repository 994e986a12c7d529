use Rattle.ee_flash.proofs.Runs.{same_numbers}
use Rattle.std.proofs.Common.{arith}
use Rattle.ee_flash.proofs.cells.put_numbers.Goals as goal

pub returns : goal.returns
returns c = same_numbers c.args.words.now c.loop-at.room (omega arith) (λ k h. c.loop-at.invariant k (omega arith))
