-- The text that is written for bytes.
use Rattle.std.specs.Prelude.{◌==◌, ◌+◌, ◌-◌, ◌/◌, ◌%◌, ◌++◌, ℕ, zero, suc, Bool, if◌then◌else◌, Option, Some, None, List, [], ◌∷◌, length, take, drop, min}
use Rattle.std.specs.List.{flat_map, list_all}
use Rattle.hex.specs.Hex.{encode_upper}
use Rattle.ee_text.specs.Line.{line_of}
use Rattle.ee_shell.specs.Dumps.intel_hex.Record.{Record, record_bytes, colon, data_kind, end_kind, linear_kind}
use Rattle.ee_shell.specs.Dumps.intel_hex.Text.{erased_byte}

-- a record as it is written: in upper case, with a line feed alone
abbrev pub record_line : Record → List ℕ
record_line r = line_of (colon ∷ encode_upper (record_bytes r))

-- bytes at the lower half of their place
abbrev pub data_record : ℕ → List ℕ → Record
data_record place bytes = record { address = place % 65536; kind = data_kind; bytes = bytes }

-- the upper half of the places that follow
abbrev pub upper_record : ℕ → Record
upper_record half =
    record { address = 0; kind = linear_kind; bytes = (half / 256) ∷ (half % 256) ∷ [] }

abbrev pub end_record : Record
end_record = record { address = 0; kind = end_kind; bytes = [] }

-- how many bytes go into one record: 16, but none behind a multiple of 65536, and no
-- more than there are
abbrev pub row_length : ℕ → ℕ → ℕ
row_length place count = min (min 16 (65536 - place % 65536)) count

-- the upper half of the place, if it isn't the one that was told last
abbrev pub upper_told : Option ℕ → ℕ → List Record
upper_told None half = upper_record half ∷ []
upper_told (Some told) half = if told == half then [] else upper_record half ∷ []

-- the records of bytes from a place on, of which there are no more than `most` rows
abbrev pub rows : ℕ → Option ℕ → ℕ → List ℕ → List Record
rows zero told place bytes = []
rows (suc most) told place [] = []
rows (suc most) told place (byte ∷ bytes) =
    let count = row_length place (length (byte ∷ bytes)) in
    upper_told told (place / 65536)
    ++ data_record place (take count (byte ∷ bytes))
    ∷ rows most (Some (place / 65536)) (place + count) (drop count (byte ∷ bytes))

-- the text for bytes from the place `base` on; for none it is the end record alone
unfoldable pub hex_text : ℕ → List ℕ → List ℕ
hex_text base bytes = flat_map record_line (rows (length bytes) None base bytes ++ end_record ∷ [])

-- ---- without the erased words

-- bytes one after another, and the place of the first
pub record ByteRun : Type 0 where
  pub place : ℕ
  pub bytes : List ℕ

-- runs with bytes in front of them, which are of the first run where that begins right behind
abbrev pub joined : ℕ → List ℕ → List ByteRun → List ByteRun
joined place bytes [] = record { place = place; bytes = bytes } ∷ []
joined place bytes (run ∷ runs) =
    if run.place == place + length bytes
    then record { place = place; bytes = bytes ++ run.bytes } ∷ runs
    else record { place = place; bytes = bytes } ∷ run ∷ runs

-- each byte of the word is erased
abbrev pub is_erased_word : List ℕ → Bool
is_erased_word word = list_all (λ byte. byte == erased_byte) word

-- the runs of the words from a place on, but for those that are erased
abbrev pub runs : ℕ → List (List ℕ) → List ByteRun
runs place [] = []
runs place (word ∷ words) =
    if is_erased_word word then runs (place + length word) words
    else joined place word (runs (place + length word) words)

-- the records of a run, the first of which tells the upper half of its place
abbrev pub run_records : ByteRun → List Record
run_records run = rows (length run.bytes) None run.place run.bytes

-- bytes as words of `size` bytes, of which there are no more than `most`
abbrev pub words_in : ℕ → ℕ → List ℕ → List (List ℕ)
words_in zero size bytes = []
words_in (suc most) size [] = []
words_in (suc most) size (byte ∷ bytes) =
    take size (byte ∷ bytes) ∷ words_in most size (drop size (byte ∷ bytes))

-- the text for bytes from the place `base` on, but for words of `size` bytes that are erased
unfoldable pub sparse_text : ℕ → ℕ → List ℕ → List ℕ
sparse_text size base bytes =
    flat_map record_line
    (flat_map run_records (runs base (words_in (length bytes) size bytes)) ++ end_record ∷ [])
