-- What an Intel HEX text says of a part of memory.
use Rattle.std.specs.Prelude.{◌≡◌, ◌≢◌, ◌⊎◌, ◌<◌, ◌≤◌, ◌+◌, ◌*◌, ◌==◌, ℕ, if◌then◌else◌, List, [], ◌∷◌, ◌++◌, length, slice_index}
use Rattle.std.specs.List.{AllByRecursion}
use Rattle.ee_shell.specs.Dumps.intel_hex.Record.{Record, IsLineOf, AreLinesOf, data_kind, end_kind, segment_kind, linear_kind}

-- bytes one after another, each with its place
abbrev pub numbered_bytes : ℕ → List ℕ → List (ℕ × ℕ)
numbered_bytes place [] = []
numbered_bytes place (byte ∷ bytes) = (place, byte) ∷ numbered_bytes (place + 1) bytes

-- the number of two bytes, the greater first
abbrev pub number_of_bytes : List ℕ → ℕ
number_of_bytes (high ∷ low ∷ []) = high * 256 + low
number_of_bytes bytes = 0

-- the upper address that holds behind a record
abbrev pub upper_after : ℕ → Record → ℕ
upper_after upper r =
    if r.kind == segment_kind then number_of_bytes r.bytes * 16
    else if r.kind == linear_kind then number_of_bytes r.bytes * 65536
    else upper

-- the bytes that a record says, each with its place
abbrev pub placed_bytes : ℕ → Record → List (ℕ × ℕ)
placed_bytes upper r =
    if r.kind == data_kind then numbered_bytes (upper + r.address) r.bytes else []

-- the bytes that records say, the first of them at this upper address
abbrev pub all_placed : ℕ → List Record → List (ℕ × ℕ)
all_placed upper [] = []
all_placed upper (r ∷ records) = placed_bytes upper r ++ all_placed (upper_after upper r) records

-- the byte is said of the place
abbrev pub Says : List (ℕ × ℕ) → ℕ → ℕ → Type 0
Says [] place byte = ⊥
Says (pair ∷ pairs) place byte = ((pair.0 ≡ place) × (pair.1 ≡ byte)) ⊎ Says pairs place byte

-- no two bytes are said of one place among these, `size` of them from `base` on
abbrev pub AgreeWithin : ℕ → ℕ → List (ℕ × ℕ) → Type 0
AgreeWithin base size pairs =
    (place byte other : ℕ) → base ≤ place → place < base + size → Says pairs place byte
    → Says pairs place other → byte ≡ other

-- a byte that was never programmed
abbrev pub erased_byte : ℕ
erased_byte = 255

-- the byte is the one that is said of the place, or none is, and the place is erased
abbrev pub IsByteAt : List (ℕ × ℕ) → ℕ → ℕ → Type 0
IsByteAt pairs place byte =
    Says pairs place byte ⊎ (((other : ℕ) → ¬ Says pairs place other) × (byte ≡ erased_byte))

-- the first lines of the text are records', none of which ends it, and agree within the part
pub record IsGoodFront (base size : ℕ) (records : List Record) (text rest : List ℕ) : Type 0 where
  pub lines : AreLinesOf records text rest
  pub no_end : AllByRecursion (λ r. r.kind ≢ end_kind) records
  pub agree : AgreeWithin base size (all_placed 0 records)

-- the first line of the text is an end record's
pub record IsEndLine (text rest : List ℕ) : Type 0 where
  pub last : Record
  pub line : IsLineOf last text rest
  pub ends : last.kind ≡ end_kind

-- the text says these bytes of the part, `size` of them from `base` on: it is records and then an
-- end record, with nothing behind
pub record IsHexOf (text : List ℕ) (base size : ℕ) (bytes : List ℕ) : Type 0 where
  pub records : List Record
  pub closing : List ℕ
  pub front : IsGoodFront base size records text closing
  pub closes : IsEndLine closing []
  pub as_long : length bytes ≡ size
  pub bytes_are : (i : ℕ) → i < size
      → IsByteAt (all_placed 0 records) (base + i) (slice_index bytes i)
