use Rattle.std.proofs.Common.{◌≡◌, ◌<◌, ◌+◌, ℕ, get_or}
use Rattle.ee_flash.specs.Runs.{number_of}
use Rattle.ee_nor.specs.Nor.{numbers_at}
use Rattle.ee_nor.specs.Pairs.{pair_in}
use Rattle.ee_nor.proofs.runs.fill_by_reading.Given as goal

abbrev pub invariant-loop-word : goal.invariant-loop-word
invariant-loop-word g l = (k : ℕ) → k < l.word → get_or l.room k 0
    ≡ number_of (pair_in (numbers_at (g.N.Nor.nor l.fn.nor) l.fn.page) (l.fn.at + k))
