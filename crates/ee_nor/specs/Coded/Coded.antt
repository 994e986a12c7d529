-- The words of a flash whose numbers are coded.
use Rattle.std.specs.Prelude.{◌≡◌, ◌≢◌, ◌<◌, ℕ, ◌+◌, ◌*◌, ◌/◌, ◌%◌, ◌^◌, ◌==◌, ◌&&◌, nat_lt, Bool, if◌then◌else◌, Option, Some, None, List, map, unwrap_or}
use Rattle.std.specs.List.{range_with_len}
use Rattle.ee_flash.specs.Device.{Device, all_ones}
use Rattle.ee_flash.specs.Numbers.{IsSlotNumber, header_half}
use Rattle.ee_flash.specs.Size.{Size}
use Rattle.ee_flash.specs.declared.word.Word.{Word}
use Rattle.ee_flash.specs.declared.word.Word.TheVariants.{Erased, Held, Torn}
use Rattle.ee_nor.specs.Coded.Code.{HasOnes, IsPayload, codeword, decoded}
use Rattle.ee_nor.specs.Coded.EccNor.{EccDevice, EccNumber, ecc_in, ecc_page}

-- ---- numbers of a store

-- whether it is a slot's: any 32 bits, 15 that are zero, a kind, and an address that is not 0
abbrev pub is_slot_number : ℕ → Bool
is_slot_number number = nat_lt (number % 2 ^ 32) (2 ^ 17) && nat_lt 0 (number % 2 ^ 16)

-- the value of a shape's mark: its pages and its words
abbrev pub mark_value : Size → ℕ
mark_value size = size.pages * 2 ^ 16 + size.words

-- the mark's payload: beside its value kind 1 and address 0, which no other number has
abbrev pub mark_payload : Size → ℕ
mark_payload size = mark_value size * 2 ^ 17 + 2 ^ 16

-- The payload of a number on a device of this shape. Of a slot's it is value, kind and address. A
-- header's has address 0: the mark, of which both halves are the same, says the shape; of any other
-- the low half is the value.
unfoldable pub payload_of_number : Size → ℕ → ℕ
payload_of_number size number =
    if is_slot_number number then number / 2 ^ 32 * 2 ^ 17 + number % 2 ^ 17
    else (if number % 2 ^ 32 == header_half then mark_payload size
    else number % 2 ^ 32 * 2 ^ 17)

-- the number that a payload is of, if it is of any
unfoldable pub number_of_payload : ℕ → ℕ
number_of_payload payload =
    if payload % 2 ^ 17 == 0 then header_half * 2 ^ 32 + payload / 2 ^ 17
    else (if payload % 2 ^ 17 == 2 ^ 16 then header_half * 2 ^ 32 + header_half
    else payload / 2 ^ 17 * 2 ^ 32 + payload % 2 ^ 17)

-- the coded word of a number
abbrev pub coded_number : Size → ℕ → ℕ
coded_number size number = codeword (payload_of_number size number)

-- ---- words

-- the word of a payload, if there is one: held where it is a number's, on a device of this shape
abbrev pub held_payload : Size → Option ℕ → Word
held_payload size None = Torn
held_payload size (Some payload) =
    if payload == payload_of_number size (number_of_payload payload)
    then Held (number_of_payload payload) else Torn

-- the word that a number of the flash is: erased where it is all ones, held where it is the coded
-- word of a number, else torn
abbrev pub coded_word : Size → ℕ → Word
coded_word size number =
    if number == all_ones then Erased else held_payload size (decoded number)

-- the word of a reading: torn where there is none
abbrev pub word_read : Size → Option ℕ → Word
word_read size None = Torn
word_read size (Some number) = coded_word size number

abbrev pub word_of_ecc : Size → EccNumber → Word
word_of_ecc size number = word_read size number.reading

-- the device of words that a device of numbers is
abbrev pub coded_device : EccDevice → Device
coded_device ecc = record {
  size = ecc.size;
  image = map (map (word_of_ecc ecc.size)) ecc.image;
  wear = ecc.wear;
  cuts = ecc.cuts;
  cuts_left = ecc.cuts_left;
  fuse = None;
  on = ecc.on;
}

-- a word reads as a number of which it is the word
abbrev pub ReadsCoded : Size → Word → ℕ → Type 0
ReadsCoded size word reading = word ≡ coded_word size reading

-- what so many numbers of a page read as, from a place on: 0 where one can't be read
abbrev pub readings_from : List EccNumber → ℕ → ℕ → List ℕ
readings_from numbers at count =
    map (λ place. unwrap_or (ecc_in numbers place).reading 0) (range_with_len at count)

-- What a look needs no decoding for: a number whose 16 lowest bits aren't 0 is a slot's or torn,
-- and in a slot's the value, kind and address stand as they are.
abbrev pub SlotsStandInClear : Type 0
SlotsStandInClear =
    (size : Size) (read number : ℕ) → coded_word size read ≡ Held number
    → (0 < read % 2 ^ 16 → IsSlotNumber number)
    × (IsSlotNumber number
    → (read / 2 ^ 32 ≡ number / 2 ^ 32) × (read % 2 ^ 17 ≡ number % 2 ^ 17))

-- ---- what an erase that is cut makes no number of

-- Cells that are all ones, unless they have every one of some coded word.
abbrev pub IsOverCoded : ℕ → Type 0
IsOverCoded cells =
    ((payload : ℕ) → IsPayload payload → HasOnes cells (codeword payload) → ⊥) → cells ≡ all_ones

abbrev pub AreOverCoded : List EccNumber → Type 0
AreOverCoded numbers = (at : ℕ) → IsOverCoded (ecc_in numbers at).cells

-- Each number is one that a coded word was programmed into, whole or cut, or is erased. Of another
-- an erase that is cut could make a number that nobody wrote.
abbrev pub AllOverCoded : EccDevice → Type 0
AllOverCoded ecc = (page : ℕ) → AreOverCoded (ecc_page ecc page)

-- power may be cut in a step to come
abbrev pub MayEccBeCut : EccDevice → Type 0
MayEccBeCut ecc = ecc.cuts_left ≢ Some 0

-- no erase that is cut makes a number
abbrev pub IsCodedSafe : EccDevice → Type 0
IsCodedSafe ecc = MayEccBeCut ecc → AllOverCoded ecc
