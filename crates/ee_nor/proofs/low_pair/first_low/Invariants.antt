use Rattle.std.proofs.Common.{ℕ, ◌<◌}
use Rattle.ee_nor.specs.Nor.{numbers_at}
use Rattle.ee_nor.specs.Pairs.{IsHigh}
use Rattle.ee_nor.proofs.low_pair.first_low.Given as goal

abbrev pub invariant-pages : goal.invariant-pages
invariant-pages g l = (k : ℕ) → k < l.page → IsHigh (numbers_at (g.N.Nor.nor l.nor) k)
