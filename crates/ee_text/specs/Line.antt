-- The lines of a text: each ends with a line feed, and has no other.
use Rattle.std.specs.Prelude.{◌≡◌, ℕ, List, [], ◌∷◌, ◌++◌}
use Rattle.std.specs.List.{flat_map}
use Rattle.ee_text.specs.Field.{Lacks}

abbrev pub line_feed : ℕ
line_feed = 10

-- what stands in a line has no line feed in it
abbrev pub IsLine : List ℕ → Type 0
IsLine text = Lacks line_feed text

-- the line of these bytes: they, and a line feed
abbrev pub line_of : List ℕ → List ℕ
line_of text = text ++ line_feed ∷ []

-- a text of these lines
abbrev pub lines_of : List (List ℕ) → List ℕ
lines_of texts = flat_map line_of texts

-- a text that goes on as the old one, and perhaps further
abbrev pub IsLonger : List ℕ → List ℕ → Type 0
IsLonger old new = (more : List ℕ) × (new ≡ old ++ more)
