use Rattle.std.proofs.Common.{◌≡◌, ◌<◌, ◌≤◌, ℕ, get_or}
use Rattle.std.specs.List.{All}
use Rattle.ee_flash.specs.Device.{all_ones}
use Rattle.ee_nor.specs.Nor.{HasBits, IsNorNumber}
use Rattle.ee_fakes.proofs.numbers.set_bits.Given as goal

abbrev pub invariant-loop-at : goal.invariant-loop-at
invariant-loop-at l =
    ((k : ℕ) → k < l.at → HasBits (get_or l.numbers k all_ones) (get_or l.fn.numbers k all_ones))
    × ((k : ℕ) → l.at ≤ k → get_or l.numbers k all_ones ≡ get_or l.fn.numbers k all_ones)
    × All IsNorNumber l.numbers
