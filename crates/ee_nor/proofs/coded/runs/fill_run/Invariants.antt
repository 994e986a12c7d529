use Rattle.std.proofs.Common.{◌≡◌, ◌<◌, ◌+◌, ℕ, get_or}
use Rattle.std.specs.Prelude.{unwrap_or}
use Rattle.ee_nor.specs.Coded.EccNor.{ecc_in, ecc_page}
use Rattle.ee_nor.proofs.coded.runs.fill_run.Given as goal

abbrev pub invariant-loop-behind : goal.invariant-loop-behind
invariant-loop-behind g l = (k : ℕ) → k < l.behind → get_or l.room k 0
    ≡ unwrap_or (ecc_in (ecc_page (g.N.EccNor.ecc l.fn.nor) l.fn.page) (l.fn.at + k)).reading 0
