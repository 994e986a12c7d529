-- A payload of 49 bits as a word with a check of 15, so that of any two words each has two ones or
-- more that the other lacks.
use Rattle.std.specs.Prelude.{◌≡◌, ◌<◌, ◌≤◌, ◌==◌, if◌then◌else◌, Option, Some, None, ℕ, ◌+◌, ◌*◌, ◌-◌, ◌/◌, ◌%◌, ◌^◌, List, [], ◌∷◌, count_ones, bit_and, bit_xor, slice_index}

-- how many ones of a number another lacks
abbrev pub ones_lost : ℕ → ℕ → ℕ
ones_lost number other = count_ones number - count_ones (bit_and number other)

-- one number has every one of another
abbrev pub HasOnes : ℕ → ℕ → Type 0
HasOnes number other = bit_and number other ≡ other

-- how a number may read: as it is, or with one bit turned
abbrev pub MayReadAs : ℕ → ℕ → Type 0
MayReadAs number read = count_ones (bit_xor number read) ≤ 1

-- ---- the check

-- a number of 32 bits, and over it itself by so many bits further to the left, or to the right
abbrev pub xor_left : ℕ → ℕ → ℕ
xor_left by number = bit_xor number (number * 2 ^ by % 2 ^ 32)

abbrev pub xor_right : ℕ → ℕ → ℕ
xor_right by number = bit_xor number (number / 2 ^ by)

-- a value of 32 bits and the 17 below it, mixed to 32
unfoldable pub mixed_bits : ℕ → ℕ → ℕ
mixed_bits value low =
    xor_left 12 (xor_right 7 (xor_right 9
    (xor_left 11 (bit_xor (bit_xor value (low * 2 ^ 12 % 2 ^ 32)) (value * 2 % 2 ^ 32)))))

-- Seven bits of parity: each of the 49 bits alone turns others of them, and two or more. The shifts
-- were found by a search for that.
unfoldable pub parity_bits : ℕ → ℕ
parity_bits payload = mixed_bits (payload / 2 ^ 17) (payload % 2 ^ 17) / 2 ^ 21 % 2 ^ 7

-- one bit more, so that the ones of payload and parity are even in number
abbrev pub overall_parity : ℕ → ℕ
overall_parity payload = (count_ones payload + count_ones (parity_bits payload)) % 2

-- half that number
abbrev pub half_weight : ℕ → ℕ
half_weight payload =
    (count_ones payload + count_ones (parity_bits payload) + overall_parity payload) / 2

-- Seven bits for each half weight: a row has a one that the next lacks, and two that each later one
-- lacks.
abbrev pub weight_rows : List ℕ
weight_rows =
    0x7f ∷ 0x7b ∷ 0x5b ∷ 0x4f ∷ 0x6d ∷ 0x75 ∷ 0x37 ∷ 0x3e ∷ 0x1e ∷ 0x5c ∷ 0x78 ∷ 0x39 ∷ 0x2b
    ∷ 0x63 ∷ 0x66 ∷ 0x46 ∷ 0x4a ∷ 0x49 ∷ 0x0d ∷ 0x2c ∷ 0x34 ∷ 0x32 ∷ 0x13 ∷ 0x03 ∷ 0x21
    ∷ 0x60 ∷ 0x50 ∷ 0x18 ∷ 0x08 ∷ []

unfoldable pub weight_row : ℕ → ℕ
weight_row at = slice_index weight_rows at

-- the check: the row of the half weight, the overall parity, the parity
abbrev pub check_bits : ℕ → ℕ
check_bits payload =
    weight_row (half_weight payload) * 2 ^ 8 + overall_parity payload * 2 ^ 7
    + parity_bits payload

-- ---- words

-- what a word says: a value of 32 bits, above a kind of one bit, above an address of 16
abbrev pub IsPayload : ℕ → Type 0
IsPayload payload = payload < 2 ^ 49

-- the word of a payload: the check stands between the value and the rest
unfoldable pub codeword : ℕ → ℕ
codeword payload = (payload / 2 ^ 17 * 2 ^ 15 + check_bits payload) * 2 ^ 17 + payload % 2 ^ 17

-- what stands beside the check in a word
abbrev pub payload_in : ℕ → ℕ
payload_in word = word / 2 ^ 32 * 2 ^ 17 + word % 2 ^ 17

-- the payload that a word is of, if it is coded
abbrev pub decoded : ℕ → Option ℕ
decoded word = if word == codeword (payload_in word) then Some (payload_in word) else None
