-- What the laws need their premises for: a counterexample without each.
use Rattle.std.proofs.Common.{◌≡◌, ◌-◌, refl}
use Rattle.ee_flash.specs.Device.{all_ones}
use Rattle.ee_flash.specs.declared.word.Word.TheVariants.{Held, Torn}
use Rattle.ee_nor.specs.Nor.{HasBits}
use Rattle.ee_nor.specs.Pairs.{pair_word}

-- Of two numbers that sum to less than all ones an erase that is cut can make a
-- number that nobody wrote.
erase_makes_no_number_needs_a_high_pair : HasBits 1 0 × HasBits (all_ones - 1) 0
    × (pair_word 0 0 ≡ Torn) × (pair_word 1 (all_ones - 1) ≡ Held 1)
erase_makes_no_number_needs_a_high_pair = (refl, refl, refl, refl)
