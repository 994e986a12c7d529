use Rattle.std.proofs.Common.{◌≡◌, ℕ, ◌<◌, ◌≤◌, false}
use Rattle.ee_nor.specs.Coded.EccNor.{ecc_at}
use Rattle.ee_nor.specs.Coded.Wiping.{is_ecc_written}
use Rattle.ee_nor.proofs.coded.wiping.is_blank_from.Given as goal

abbrev pub invariant-numbers : goal.invariant-numbers
invariant-numbers g l =
    (k : ℕ) → l.fn.from ≤ k → k < l.at
    → is_ecc_written (ecc_at (g.N.EccNor.ecc l.nor) l.page k) ≡ false
