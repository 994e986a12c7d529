-- What a map holds as a record: bytes, with their check, beside the other variables.
use Rattle.std.specs.Prelude.{◌≡◌, ◌==◌, ◌+◌, ◌-◌, ◌*◌, ◌/◌, ◌%◌, ◌^◌, ◌≤◌, ◌<◌, ◌↔◌, ℕ, Option, Some, None, List, if◌then◌else◌, length, slice_index}
use Rattle.std.specs.Int.{bit_at}
use Rattle.ee_flash.specs.Device.{Device}
use Rattle.ee_pages.specs.Meaning.{Map}
use Rattle.ee_core.specs.State.{state_of}
use Rattle.ee_records.specs.Check.{check_of, bytes_word, words_for}

-- The base address has the record's head: the length in bytes in the low 16 bits, and 16 turns in
-- the high ones.
abbrev pub head_of : ℕ → ℕ → ℕ
head_of turns length = turns * 65536 + length

-- the words of a record with so many bytes: its check, and behind it the words of its bytes
abbrev pub words_with : ℕ → ℕ
words_with bytes = words_for bytes + 1

-- the word of this number of a record that is these bytes
abbrev pub record_word : List ℕ → ℕ → ℕ
record_word bytes word = if word == 0 then check_of bytes else bytes_word bytes (word - 1)

-- the turn of a word, 0 or 1
abbrev pub word_turn : ℕ → ℕ → ℕ
word_turn turns word = bit_at turns (word % 16)

-- Behind the base address each word has two addresses. Its turn says which of the two counts.
abbrev pub place : ℕ → ℕ → ℕ → ℕ
place base word turn = base + 1 + 2 * word + turn

-- where a word counts
abbrev pub place_by : ℕ → ℕ → ℕ → ℕ
place_by base turns word = place base word (word_turn turns word)

-- the address is one of a record with room for so many words of bytes
pub record IsOf (base room address : ℕ) : Type 0 where
  pub from : base ≤ address
  pub to : address ≤ base + 2 * (room + 1)

-- the byte of a value at this place, 0 to 3, the lowest first
abbrev pub byte_of : ℕ → ℕ → ℕ
byte_of value at = value / 2 ^ (8 * at) % 256

-- there is a value, and it has this byte at this place
abbrev pub HasByte : Option ℕ → ℕ → ℕ → Type 0
HasByte None at byte = ⊥
HasByte (Some value) at byte = byte_of value at ≡ byte

-- In this map the record at the base address, with room for so many words, is these bytes.
pub record HoldsBytes (map : Map) (base room : ℕ) (bytes : List ℕ) : Type 0 where
  pub turns : ℕ
  pub head : map base ≡ Some (head_of turns (length bytes))
  pub few : length bytes ≤ 4 * room
  pub check : map (place_by base turns 0) ≡ Some (check_of bytes)
  pub each : (at : ℕ) → at < length bytes
      → HasByte (map (place_by base turns (at / 4 + 1))) (at % 4) (slice_index bytes at)

-- it is none: it has no head
abbrev pub HasNoRecord : Map → ℕ → Type 0
HasNoRecord map base = map base ≡ None

-- it has a head, and is no bytes with their check
pub record IsHurt (map : Map) (base room : ℕ) : Type 0 where
  pub head : ℕ
  pub there : map base ≡ Some head
  pub no_bytes : (bytes : List ℕ) → ¬ HoldsBytes map base room bytes

-- the record is the same in both maps: the same bytes, none, or hurt
pub record IsSameRecord (base room : ℕ) (old new : Map) : Type 0 where
  pub head : new base ≡ old base
  pub bytes : (bytes : List ℕ) → HoldsBytes old base room bytes ↔ HoldsBytes new base room bytes

-- each address that isn't the record's has what it had
abbrev pub KeepsBeside : ℕ → ℕ → Device → Device → Type 0
KeepsBeside base room old new =
    (address : ℕ) → ¬ IsOf base room address
    → (state_of new).map address ≡ (state_of old).map address

-- the record is as it was
abbrev pub KeepsRecord : ℕ → ℕ → Device → Device → Type 0
KeepsRecord base room old new = IsSameRecord base room (state_of old).map (state_of new).map
