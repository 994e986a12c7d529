-- A record of an Intel HEX text, and the line that spells it.
use Rattle.std.specs.Prelude.{◌≡◌, ◌==◌, ◌||◌, nat_le, ◌<◌, ◌+◌, ◌-◌, ◌/◌, ◌%◌, ℕ, Bool, true, false, if◌then◌else◌, Ok, List, [], ◌∷◌, ◌++◌, length}
use Rattle.std.specs.List.{sum}
use Rattle.hex.specs.Hex.{IsBytes, decode_of}
use Rattle.ee_text.specs.Line.{IsLine, line_of}

-- a record: its address, of 16 bits, its type, and its data
pub record Record : Type 0 where
  pub address : ℕ
  pub kind : ℕ
  pub bytes : List ℕ

-- the types that do something: data, the end, and the upper address in units of 16 or of 65536.
-- Types 3 and 5 say where a program starts, and are passed over.
abbrev pub data_kind : ℕ
data_kind = 0

abbrev pub end_kind : ℕ
end_kind = 1

abbrev pub segment_kind : ℕ
segment_kind = 2

abbrev pub linear_kind : ℕ
linear_kind = 4

-- so many bytes are right for the type: data goes up to the last 16-bit address, and each other
-- type has its own number of bytes
abbrev pub fits_kind : ℕ → ℕ → ℕ → Bool
fits_kind kind address count =
    if kind == data_kind then nat_le (address + count) 65536
    else if kind == end_kind then count == 0
    else if kind == segment_kind || kind == linear_kind then count == 2
    else if kind == 3 || kind == 5 then count == 4
    else false

-- a record that can stand in a text
pub record IsRecord (r : Record) : Type 0 where
  pub address_fits : r.address < 65536
  pub few : length r.bytes < 256
  pub bytes : IsBytes r.bytes
  pub fits : fits_kind r.kind r.address (length r.bytes) ≡ true

-- the bytes before the last: the number of data bytes, the address with its greater byte first,
-- the type, and the data
abbrev pub front_bytes : Record → List ℕ
front_bytes r = length r.bytes ∷ (r.address / 256) ∷ (r.address % 256) ∷ r.kind ∷ r.bytes

-- the byte that makes a sum a multiple of 256
abbrev pub check_byte : ℕ → ℕ
check_byte total = (256 - total % 256) % 256

-- all bytes of a record
unfoldable pub record_bytes : Record → List ℕ
record_bytes r = front_bytes r ++ check_byte (sum (front_bytes r)) ∷ []

abbrev pub colon : ℕ
colon = 58

abbrev pub carriage_return : ℕ
carriage_return = 13

-- a line without the carriage return at its end, if one stands there
unfoldable pub line_without_return : List ℕ → List ℕ
line_without_return [] = []
line_without_return (b ∷ []) = if b == carriage_return then [] else b ∷ []
line_without_return (b ∷ c ∷ line) = b ∷ line_without_return (c ∷ line)

-- the line spells the record: a colon, and digits, in either case, that are its bytes
pub record SpellsRecord (line : List ℕ) (r : Record) : Type 0 where
  pub proper : IsRecord r
  pub digits : List ℕ
  pub line_is : line ≡ colon ∷ digits
  pub digits_are : decode_of digits ≡ Ok (record_bytes r)

-- the first line of the text spells the record, with a carriage return at its end or none, and the
-- rest comes behind it
pub record IsLineOf (r : Record) (text rest : List ℕ) : Type 0 where
  pub line : List ℕ
  pub in_line : IsLine line
  pub text_is : text ≡ line_of line ++ rest
  pub spelled : SpellsRecord (line_without_return line) r

-- the first lines of the text spell the records, one after another, and the rest comes behind them
abbrev pub AreLinesOf : List Record → List ℕ → List ℕ → Type 0
AreLinesOf [] text rest = text ≡ rest
AreLinesOf (r ∷ records) text rest =
    (more : List ℕ) × IsLineOf r text more × AreLinesOf records more rest
