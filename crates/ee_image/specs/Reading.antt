-- What the parts of the reader and of the writer give.
use Rattle.std.specs.Prelude.{◌≡◌, ◌≢◌, ℕ, List, ◌∷◌, ◌++◌, length}
use Rattle.std.specs.List.{All, flat_map}
use Rattle.ee_text.specs.Field.{space}
use Rattle.ee_text.specs.Line.{line_of}
use Rattle.ee_flash.specs.Size.{Size}
use Rattle.ee_flash.specs.Device.{IsBelowAllOnes}
use Rattle.ee_flash.specs.declared.word.Word.{Word}
use Rattle.ee_image.specs.Text.{word_text, page_text, page_lines, IsPage, ArePages}
use Rattle.ee_image.specs.Fault.{NoPage, IsBadPage}
use Rattle.ee_image.specs.declared.fault.ImageFault.{ImageFault}
use Rattle.ee_image.specs.declared.fault.ImageFault.TheVariants.{TooLong, BadLine, BadShape, Memory}
use Rattle.ee_image.specs.declared.reading.PageFault.{PageFault}
use Rattle.ee_image.specs.declared.reading.PageFault.TheVariants.{Bad, NoMemory}

-- words in a row, each behind a space
abbrev pub spaced_words : List Word → List ℕ
spaced_words words = flat_map (λ word. space ∷ word_text word) words

-- at the front of the text stood so many words, which came behind the cells, and the
-- rest comes behind them
pub record AreWordsRead (count : ℕ) (text rest : List ℕ) (old new : List Word) : Type 0 where
  pub words : List Word
  pub as_long : length words ≡ count
  pub below_all_ones : All IsBelowAllOnes words
  pub text_is : text ≡ spaced_words words ++ rest
  pub cells : new ≡ old ++ words

-- the text doesn't begin with so many words
abbrev pub NoWords : ℕ → List ℕ → Type 0
NoWords count text =
    (words : List Word) (rest : List ℕ) → length words ≡ count → All IsBelowAllOnes words
    → text ≢ spaced_words words ++ rest

abbrev pub IsWordsFault : ℕ → List ℕ → PageFault → Type 0
IsWordsFault count text Bad = NoWords count text
IsWordsFault count text NoMemory = Unit {0}

-- at the front of the text stood a page's line, and the rest comes behind it
pub record IsNextPage (words wear : ℕ) (text rest : List ℕ) (old new : List Word) : Type 0 where
  pub page : List Word
  pub proper : IsPage words wear page
  pub text_is : text ≡ line_of (page_text wear page) ++ rest
  pub cells : new ≡ old ++ page

abbrev pub IsPageFault : ℕ → List ℕ → PageFault → Type 0
IsPageFault words text Bad = NoPage words text
IsPageFault words text NoMemory = Unit {0}

-- so many pages were read, and the rest comes behind them
pub record ArePagesRead (words count : ℕ) (text rest : List ℕ) (cells : List Word) (wears : List ℕ)
    : Type 0 where
  pub pages : List (List Word)
  pub count_is : length pages ≡ count
  pub proper : ArePages words pages wears
  pub text_is : text ≡ page_lines pages wears ++ rest
  pub cells_are : cells ≡ flat_map (λ page. page) pages

-- why the pages behind the first line aren't read
abbrev pub IsPagesFault : Size → List ℕ → ImageFault → Type 0
IsPagesFault size text TooLong = ⊥
IsPagesFault size text (BadLine n) = IsBadPage size text n
IsPagesFault size text BadShape = ⊥
IsPagesFault size text Memory = Unit {0}
