-- The fields of a line: one space stands between each two, and none in a field.
use Rattle.std.specs.Prelude.{ℕ, List, IsTrue, not, ◌==◌}
use Rattle.std.specs.List.{list_all, join_with_byte, slice_split}

abbrev pub space : ℕ
space = 32

-- no byte of the text is this one
abbrev pub Lacks : ℕ → List ℕ → Type 0
Lacks byte text = IsTrue (list_all (λ b. not (b == byte)) text)

-- a field has no space in it; it may be empty
abbrev pub IsField : List ℕ → Type 0
IsField text = Lacks space text

-- the fields in a row, with a space between each two
abbrev pub joined_fields : List (List ℕ) → List ℕ
joined_fields fields = join_with_byte space fields

-- the parts of a line between its spaces
abbrev pub fields_of : List ℕ → List (List ℕ)
fields_of line = slice_split (λ b. b == space) line
