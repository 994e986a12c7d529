use Rattle.std.proofs.Common.{arith}
use Rattle.ee_nor.specs.Coded.EccNor.{ecc_page}
use Rattle.ee_nor.proofs.CodedLemmas.CodeRuns.{same_readings}
use Rattle.ee_nor.proofs.coded.runs.fill_run.Goals as goal

pub returns : goal.returns
returns g c =
    same_readings (ecc_page (g.N.EccNor.ecc c.args.nor.now) c.args.page) c.loop-behind.room
    c.args.at _
    (omega arith) (λ k h. c.loop-behind.invariant k (omega arith))
