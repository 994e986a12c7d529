use Rattle.std.proofs.Common.{arith}
use Rattle.ee_nor.specs.Nor.{numbers_at}
use Rattle.ee_nor.proofs.PairRuns.{same_run_of_pairs}
use Rattle.ee_nor.proofs.runs.fill_by_reading.Goals as goal

pub returns : goal.returns
returns g c =
    same_run_of_pairs (numbers_at (g.N.Nor.nor c.args.nor.now) c.args.page) c.loop-word.room
    c.args.at _
    (omega arith) (λ k h. c.loop-word.invariant k (omega arith))
