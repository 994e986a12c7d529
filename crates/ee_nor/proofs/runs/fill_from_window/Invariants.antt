use Rattle.std.proofs.Common.{◌≡◌, ◌<◌, ℕ, get_or, length}
use Rattle.ee_flash.specs.Runs.{number_of}
use Rattle.ee_nor.specs.Pairs.{pair_in}
use Rattle.ee_nor.proofs.runs.fill_from_window.Given as goal

abbrev pub invariant-words : goal.invariant-words
invariant-words l = (length l.room ≡ length l.fn.room)
    × ((k : ℕ) → k < l.word → get_or l.room k 0 ≡ number_of (pair_in l.fn.numbers k))
