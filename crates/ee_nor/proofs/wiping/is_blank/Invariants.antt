use Rattle.std.proofs.Common.{◌≡◌, ℕ, ◌<◌, false}
use Rattle.ee_nor.specs.Nor.{number_at}
use Rattle.ee_nor.specs.Wiping.{is_programmed}
use Rattle.ee_nor.proofs.wiping.is_blank.Given as goal

abbrev pub invariant-numbers : goal.invariant-numbers
invariant-numbers g l =
    (k : ℕ) → k < l.at → is_programmed (number_at (g.N.Nor.nor l.nor) l.page k) ≡ false
