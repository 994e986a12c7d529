-- The CRC of an element, a bit further; and what an element is.
use Rattle.std.proofs.Common.{◌≡◌, ◌<◌, ◌≤◌, ◌+◌, ◌*◌, ◌-◌, ◌&&◌, ℕ, Bool, true, false, refl, add-one, arith, rules}
use Rattle.std.specs.Prelude.{bit_xor}
use Rattle.std.proofs.lemmas.Bool.Decides.{nat_tests}
use Rattle.ee_codec.specs.Words.{IsAddress}
use Rattle.ee_shell.specs.Xcube.Element.{address_in, crc_bit_further, crc_bits_further, is_xcube_element}

pub low_further : (rest : ℕ) → rest < 32768 → crc_bit_further rest ≡ 2 * rest
low_further rest low = grind (arith, nat_tests)

pub high_further : (rest : ℕ) → 32768 ≤ rest
    → crc_bit_further rest ≡ bit_xor (2 * (rest - 32768)) 32773
high_further rest high = grind (arith, nat_tests)

pub bits-zero : (rest : ℕ) → crc_bits_further 0 rest ≡ rest
unfolding crc_bits_further
bits-zero rest = refl

pub bits-next : (bits rest : ℕ) → crc_bits_further (bits + 1) rest ≡ crc_bit_further (crc_bits_further bits rest)
unfolding crc_bits_further
bits-next bits rest = rw add-one refl

pub proper : (number : ℕ) → is_xcube_element number ≡ true → IsAddress (address_in number)
proper number fits = grind (arith, nat_tests)
