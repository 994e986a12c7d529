-- An element of X-CUBE-EEPROM: its data in the high half, its CRC in the bits 31 to 16, its virtual
-- address in the bits 15 to 0.
use Rattle.std.specs.Prelude.{ℕ, ◌*◌, ◌-◌, ◌/◌, ◌%◌, ◌^◌, ◌==◌, ◌&&◌, Bool, nat_lt, bit_xor, if◌then◌else◌, suc, zero}

abbrev pub value_in : ℕ → ℕ
value_in number = number / 2 ^ 32

abbrev pub crc_in : ℕ → ℕ
crc_in number = number / 2 ^ 16 % 2 ^ 16

abbrev pub address_in : ℕ → ℕ
address_in number = number % 2 ^ 16

-- a remainder of 16 bits by x^16 + x^15 + x^2 + 1, one bit further
abbrev pub crc_bit_further : ℕ → ℕ
crc_bit_further rest = if nat_lt rest 0x8000 then 2 * rest else bit_xor (2 * (rest - 0x8000)) 0x8005

-- so many bits further
unfoldable pub crc_bits_further : ℕ → ℕ → ℕ
crc_bits_further zero rest = rest
crc_bits_further (suc bits) rest = crc_bit_further (crc_bits_further bits rest)

-- 16 bits further, the greatest first
abbrev pub half_further : ℕ → ℕ → ℕ
half_further rest half = crc_bits_further 16 (bit_xor rest half)

-- the CRC of the data and then the address, the greatest bit first, from all ones on
abbrev pub crc_of : ℕ → ℕ → ℕ
crc_of value address =
    half_further (half_further (half_further 0xFFFF (value / 2 ^ 16)) (value % 2 ^ 16)) address

-- its CRC fits, and its address is one: 0 and 65535 are none
abbrev pub is_xcube_element : ℕ → Bool
is_xcube_element number =
    crc_in number == crc_of (value_in number) (address_in number)
    && nat_lt 0 (address_in number) && nat_lt (address_in number) 65535
