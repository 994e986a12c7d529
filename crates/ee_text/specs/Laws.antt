-- What holds of every text: how numbers, fields and lines are told from one another.
use Rattle.std.specs.Prelude.{◌≡◌, ℕ, ◌<◌, ◌≤◌, ◌^◌, List, ◌∷◌, length, decimal}
use Rattle.std.specs.List.{AllByRecursion}
use Rattle.ee_text.specs.Field.{IsField, joined_fields}
use Rattle.ee_text.specs.Line.{IsLine, lines_of}

-- two numbers are never written alike
abbrev pub TextsTellNumbers : Type 0
TextsTellNumbers = (m n : ℕ) → m < 2 ^ 64 → n < 2 ^ 64 → decimal m ≡ decimal n → m ≡ n

-- a number is a field of a line, of one byte to twenty
pub record IsNumberField (text : List ℕ) : Type 0 where
  pub field : IsField text
  pub in_line : IsLine text
  pub some : 0 < length text
  pub short : length text ≤ 20

abbrev pub NumbersAreFields : Type 0
NumbersAreFields = (n : ℕ) → n < 2 ^ 64 → IsNumberField (decimal n)

-- a row of fields is of these fields and no others
abbrev pub RowsTellFields : Type 0
RowsTellFields =
    (first other : List ℕ) (firsts others : List (List ℕ)) → AllByRecursion IsField (first ∷ firsts)
    → AllByRecursion IsField (other ∷ others)
    → joined_fields (first ∷ firsts) ≡ joined_fields (other ∷ others)
    → ◌≡◌ {A = List (List ℕ)} (first ∷ firsts) (other ∷ others)

-- fields with no line feed stand in a line
abbrev pub FieldsMakeALine : Type 0
FieldsMakeALine =
    (fields : List (List ℕ)) → AllByRecursion IsLine fields → IsLine (joined_fields fields)

-- a text of lines is of these lines and no others
abbrev pub TextsTellLines : Type 0
TextsTellLines =
    (texts others : List (List ℕ)) → AllByRecursion IsLine texts → AllByRecursion IsLine others
    → lines_of texts ≡ lines_of others → texts ≡ others
