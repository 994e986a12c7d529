-- The words of the store, as numbers of 64 bits: who may stand in them, and how each is spelled.
use Rattle.std.specs.Prelude.{ℕ, ◌+◌, ◌*◌, ◌^◌, ◌<◌}

-- a proper address: 0 and 65535 are none
abbrev pub IsAddress : ℕ → Type 0
IsAddress address = (0 < address) × (address < 65535)

-- a generation of a set: 0 and 2 ^ 32 - 1 are none
abbrev pub IsGeneration : ℕ → Type 0
IsGeneration generation = (0 < generation) × (generation < 4294967295)

-- a value of a variable
abbrev pub IsValue : ℕ → Type 0
IsValue value = value < 2 ^ 32

-- the address has the value: the value in the high 32 bits, zero in the middle 16, the
-- address in the low 16
abbrev pub element : ℕ → ℕ → ℕ
element address value = value * 2 ^ 32 + address

-- the address has no value: the same, with 1 in the middle
abbrev pub forgetting : ℕ → ℕ → ℕ
forgetting address value = value * 2 ^ 32 + 2 ^ 16 + address

-- a set of this generation takes elements
abbrev pub receive : ℕ → ℕ
receive generation = 0xAAAAAAAA00000000 + generation

-- the mark: what a header word that says active, valid or erasing holds
abbrev pub mark_number : ℕ
mark_number = 0xAAAAAAAAAAAAAAAA
