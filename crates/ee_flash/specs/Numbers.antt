-- The numbers that a store writes: a device need hold no others.
use Rattle.std.specs.Prelude.{◌≡◌, ◌<◌, ◌⊎◌, ℕ, ◌/◌, ◌%◌, ◌^◌}

-- the high half of the numbers that stand in the header of a page
abbrev pub header_half : ℕ
header_half = 0xAAAAAAAA

-- a slot's: any 32 bits, 15 that are zero, a kind of one bit, and an address of 16 that is not 0
abbrev pub IsSlotNumber : ℕ → Type 0
IsSlotNumber number = (number % 2 ^ 32 < 2 ^ 17) × (0 < number % 2 ^ 16)

-- a header's: its high half, and any 32 bits
abbrev pub IsHeaderNumber : ℕ → Type 0
IsHeaderNumber number = number / 2 ^ 32 ≡ header_half

abbrev pub IsStoreNumber : ℕ → Type 0
IsStoreNumber number = IsSlotNumber number ⊎ IsHeaderNumber number
