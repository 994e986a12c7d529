-- What the parts of the reader give, as functions on lists.
use Rattle.std.specs.Prelude.{◌==◌, ◌&&◌, nat_le, nat_lt, ◌+◌, ◌-◌, ◌*◌, ◌%◌, ℕ, if◌then◌else◌, Option, Some, None, Result, Ok, Err, List, [], ◌∷◌, length, slice_index_or, slice_set, take, map}
use Rattle.std.specs.Option.{option_and_then, unwrap_or}
use Rattle.std.specs.List.{slice_split, sum}
use Rattle.hex.specs.Hex.{decode_of}
use Rattle.hex.specs.declared.error.FromHexError.{FromHexError}
use Rattle.ee_text.specs.Line.{line_feed}
use Rattle.ee_shell.specs.Dumps.intel_hex.Record.{Record, colon, end_kind, fits_kind, line_without_return}
use Rattle.ee_shell.specs.Dumps.intel_hex.Text.{erased_byte, placed_bytes, upper_after}

-- what stands before and between line feeds, and behind the last
abbrev pub lines_in : List ℕ → List (List ℕ)
lines_in text = slice_split (λ b. b == line_feed) text

abbrev pub bytes_decoded : Result (List ℕ) FromHexError → Option (List ℕ)
bytes_decoded (Ok bytes) = Some bytes
bytes_decoded (Err e) = None

-- the bytes that a line spells
abbrev pub bytes_in : List ℕ → Option (List ℕ)
bytes_in [] = None
bytes_in (first ∷ digits) = if first == colon then bytes_decoded (decode_of digits) else None

-- the record that bytes are
abbrev pub record_of : List ℕ → Option Record
record_of (count ∷ high ∷ low ∷ kind ∷ behind) =
    if length behind == count + 1
    && (sum (count ∷ high ∷ low ∷ kind ∷ behind) % 256 == 0
    && fits_kind kind (high * 256 + low) count)
    then Some (record { address = high * 256 + low; kind = kind; bytes = take count behind })
    else None
record_of bytes = None

-- the record that a line spells
unfoldable pub record_in : List ℕ → Option Record
record_in line = option_and_then record_of (bytes_in (line_without_return line))

-- a byte comes to a place of a part that has none there, or the same
abbrev pub put_at : ℕ → ℕ → List (Option ℕ) → Option ℕ → Option (List (Option ℕ))
put_at at byte cells None = Some (slice_set cells at (Some byte))
put_at at byte cells (Some given) = if given == byte then Some cells else None

-- a byte comes to a place; outside the part it is passed over
unfoldable pub put : ℕ → ℕ → ℕ → List (Option ℕ) → Option (List (Option ℕ))
put base place byte cells =
    if nat_le base place && nat_lt place (base + length cells)
    then put_at (place - base) byte cells (slice_index_or cells (place - base) None)
    else Some cells

-- bytes come to their places, one after another
abbrev pub put_all : ℕ → List (ℕ × ℕ) → List (Option ℕ) → Option (List (Option ℕ))
put_all base [] cells = Some cells
put_all base (pair ∷ pairs) cells =
    option_and_then (put_all base pairs) (put base pair.0 pair.1 cells)

-- what a line does to a reader
pub data RecordStep : Type 0 where
  Stops : RecordStep
  Ends : RecordStep
  Goes : ℕ → List (Option ℕ) → RecordStep

abbrev pub step_kept : ℕ → Option (List (Option ℕ)) → RecordStep
step_kept upper None = Stops
step_kept upper (Some cells) = Goes upper cells

-- a record that was found, or none
abbrev pub step_of_record : ℕ → ℕ → List (Option ℕ) → Option Record → RecordStep
step_of_record base upper cells None = Stops
step_of_record base upper cells (Some r) =
    if r.kind
    == end_kind then Ends else step_kept (upper_after upper r)
    (put_all base (placed_bytes upper r) cells)

-- behind the end nothing follows, or line n is one too many
abbrev pub cells_at_end : ℕ → List (Option ℕ) → List (List ℕ) → Result (List (Option ℕ)) ℕ
cells_at_end n cells ([] ∷ []) = Ok cells
cells_at_end n cells parts = Err n

abbrev pub after_record : ℕ → List (Option ℕ) → List (List ℕ)
    → (ℕ → List (Option ℕ) → Result (List (Option ℕ)) ℕ) → RecordStep → Result (List (Option ℕ)) ℕ
after_record n cells parts more Stops = Err n
after_record n cells parts more Ends = cells_at_end (n + 1) cells parts
after_record n cells parts more (Goes upper new) = more upper new

-- what the lines from line n on come to: the places of the part, or the first bad line
unfoldable pub cells_of_lines : ℕ → ℕ → ℕ → List (Option ℕ) → List (List ℕ)
    → Result (List (Option ℕ)) ℕ
cells_of_lines base n upper cells [] = Err n
cells_of_lines base n upper cells (last ∷ []) = Err n
cells_of_lines base n upper cells (line ∷ next ∷ parts) =
    after_record n cells (next ∷ parts)
    (λ above new. cells_of_lines base (n + 1) above new (next ∷ parts))
    (step_of_record base upper cells (record_in line))

-- the bytes of the part
abbrev pub bytes_of : List (Option ℕ) → List ℕ
bytes_of cells = map (λ cell. unwrap_or cell erased_byte) cells
