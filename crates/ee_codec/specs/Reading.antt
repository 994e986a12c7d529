-- What a word says, by its place: as a slot, as a receive word, as a mark.
use Rattle.std.specs.Prelude.{◌≡◌, ◌≢◌, ℕ, ◌-◌, ◌/◌, ◌%◌, ◌^◌, ◌==◌, ◌&&◌, Bool, false, nat_lt, if◌then◌else◌, Option, Some, None}
use Rattle.ee_flash.specs.declared.word.Word.{Word}
use Rattle.ee_flash.specs.declared.word.Word.TheVariants.{Erased, Held, Torn}
use Rattle.ee_codec.specs.declared.header.MarkRead.{MarkRead}
use Rattle.ee_codec.specs.declared.header.MarkRead.TheVariants as marks
use Rattle.ee_codec.specs.declared.slot.Slot.{Slot}
use Rattle.ee_codec.specs.declared.slot.Slot.TheVariants.{Free, Spoiled, Element, Forgotten, Foreign}
use Rattle.ee_codec.specs.Words.{IsAddress, IsValue, element, forgetting, mark_number}

-- A word says this as a slot: an element or a forgetting exactly where it is its spelling.
-- No other pair is one.
abbrev pub SaysSlot : Word → Slot → Type 0
SaysSlot Erased Free = Unit {0}
SaysSlot Torn Spoiled = Unit {0}
SaysSlot (Held number) (Element address value) =
    IsAddress address × IsValue value × (number ≡ element address value)
SaysSlot (Held number) (Forgotten address value) =
    IsAddress address × IsValue value × (number ≡ forgetting address value)
SaysSlot (Held number) Foreign =
    (address value : ℕ) → IsAddress address → IsValue value
    → (number ≢ element address value) × (number ≢ forgetting address value)
SaysSlot word slot = ⊥

-- A word says this as a mark.
abbrev pub SaysMark : Word → MarkRead → Type 0
SaysMark Erased marks.Absent = Unit {0}
SaysMark Torn marks.Broken = Unit {0}
SaysMark (Held number) marks.Present = number ≡ mark_number
SaysMark (Held number) marks.Foreign = number ≢ mark_number
SaysMark word mark = ⊥

-- The same as functions, for the layers above to compute with.

abbrev is_address : ℕ → Bool
is_address address = nat_lt 0 address && nat_lt address 65535

-- by the number's value, its middle bits and its address
abbrev slot_of_parts : ℕ → ℕ → ℕ → Slot
slot_of_parts value middle address =
    if is_address address && (middle == 0) then Element address value
    else (if is_address address && (middle == 1) then Forgotten address value else Foreign)

abbrev pub slot_of : Word → Slot
slot_of Erased = Free
slot_of Torn = Spoiled
slot_of (Held number) = slot_of_parts (number / 2 ^ 32) (number / 2 ^ 16 % 2 ^ 16) (number % 2 ^ 16)

-- in an element and in a forgetting the address stands in the low 16 bits
abbrev pub ends_in : Word → ℕ → Bool
ends_in Erased address = false
ends_in Torn address = false
ends_in (Held number) address = number % 2 ^ 16 == address

-- the generation, where the word is a receive word
abbrev pub receive_of : Word → Option ℕ
receive_of (Held number) =
    if nat_lt 0xAAAAAAAA00000000 number
    && nat_lt number 0xAAAAAAAAFFFFFFFF then Some (number - 0xAAAAAAAA00000000) else None
receive_of word = None

abbrev pub mark_of : Word → MarkRead
mark_of Erased = marks.Absent
mark_of Torn = marks.Broken
mark_of (Held number) = if number == mark_number then marks.Present else marks.Foreign
