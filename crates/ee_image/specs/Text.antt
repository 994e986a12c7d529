-- The text of a device: a line that says its size, and a line for each page with its wear.
use Rattle.std.specs.Prelude.{◌≡◌, ◌≤◌, ◌^◌, ◌<◌, ℕ, None, Some, true, List, [], ◌∷◌, ◌++◌, length, map, decimal, codes}
use Rattle.std.specs.Int.{to_be_bytes, w64}
use Rattle.std.specs.List.{All}
use Rattle.hex.specs.Hex.{encode_lower}
use Rattle.ee_text.specs.Field.{joined_fields}
use Rattle.ee_text.specs.Line.{line_of}
use Rattle.ee_flash.specs.Size.{Size}
use Rattle.ee_flash.specs.Device.{Device, IsBelowAllOnes, all_ones}
use Rattle.ee_flash.specs.declared.word.Word.{Word}
use Rattle.ee_flash.specs.declared.word.Word.TheVariants.{Erased, Held, Torn}

-- a number of 64 bits: its eight bytes, the greatest first, each as two digits of 0123456789abcdef
unfoldable pub digits : ℕ → List ℕ
digits value = encode_lower (to_be_bytes w64 value)

-- a word
abbrev pub word_text : Word → List ℕ
word_text Erased = codes "-"
word_text Torn = codes "?"
word_text (Held value) = digits value

-- what a page's line says: its wear, and its words
abbrev pub page_text : ℕ → List Word → List ℕ
page_text wear page = joined_fields (decimal wear ∷ map word_text page)

-- the lines of pages, each with its wear
abbrev pub page_lines : List (List Word) → List ℕ → List ℕ
page_lines [] wears = []
page_lines (page ∷ pages) [] = []
page_lines (page ∷ pages) (wear ∷ wears) = line_of (page_text wear page) ++ page_lines pages wears

-- what the first line says: the pages of each set, and the words of a page
abbrev pub size_text : Size → List ℕ
size_text size = joined_fields (codes "ee" ∷ decimal size.pages ∷ decimal size.words ∷ [])

-- the text of a device
abbrev pub image_text : Device → List ℕ
image_text device = line_of (size_text device.size) ++ page_lines device.image device.wear

-- the device with this text: it is on, power was never cut, and no cut is to come
abbrev pub at_rest : Device → Device
at_rest device = record device { cuts = 0; cuts_left = Some 0; fuse = Some None; on = true }

-- what the line of a page with so many words can say
pub record IsPage (words wear : ℕ) (page : List Word) : Type 0 where
  pub wear_fits : wear ≤ all_ones
  pub as_long : length page ≡ words
  pub below_all_ones : All IsBelowAllOnes page

-- pages that each can stand in a line, each with its wear
abbrev pub ArePages : ℕ → List (List Word) → List ℕ → Type 0
ArePages words [] [] = Unit {0}
ArePages words [] (wear ∷ wears) = ⊥
ArePages words (page ∷ pages) [] = ⊥
ArePages words (page ∷ pages) (wear ∷ wears) = IsPage words wear page × ArePages words pages wears

-- the numbers that a first line can say
pub record IsNumbered (size : Size) : Type 0 where
  pub pages : size.pages < 2 ^ 64
  pub words : size.words < 2 ^ 64
