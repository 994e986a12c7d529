-- Why a text is no device's.
use Rattle.std.specs.Prelude.{◌≡◌, ◌≢◌, ◌⊎◌, ◌≤◌, ◌<◌, ◌+◌, ℕ, List, [], ◌++◌, length}
use Rattle.ee_text.specs.Line.{line_of}
use Rattle.ee_flash.specs.Size.{Size, IsWithinLimits, page_count}
use Rattle.ee_flash.specs.declared.word.Word.{Word}
use Rattle.ee_image.specs.Text.{page_text, page_lines, size_text, IsPage, ArePages, IsNumbered}
use Rattle.ee_image.specs.declared.fault.ImageFault.{ImageFault}
use Rattle.ee_image.specs.declared.fault.ImageFault.TheVariants.{TooLong, BadLine, BadShape, Memory}

-- the most bytes that are read
abbrev pub longest : ℕ
longest = 4194304

-- the text begins with a line of this size, and goes on with the rest
pub record BeginsWithSize (text : List ℕ) (size : Size) (rest : List ℕ) : Type 0 where
  pub numbered : IsNumbered size
  pub text_is : text ≡ line_of (size_text size) ++ rest

-- it begins with no line of a size
abbrev pub NoSize : List ℕ → Type 0
NoSize text = (size : Size) (rest : List ℕ) → BeginsWithSize text size rest → ⊥

-- no line of a page with so many words stands at the front
abbrev pub NoPage : ℕ → List ℕ → Type 0
NoPage words text =
    (wear : ℕ) (page : List Word) (rest : List ℕ) → IsPage words wear page
    → text ≢ line_of (page_text wear page) ++ rest

-- Behind the first line: after the lines of these pages one is still needed and none stands there,
-- or none is needed and the text goes on. A line that isn't ended by a line feed is bad, and so is
-- one that is missing.
pub record IsBadPage (size : Size) (text : List ℕ) (n : ℕ) : Type 0 where
  pub pages : List (List Word)
  pub wears : List ℕ
  pub rest : List ℕ
  pub proper : ArePages size.words pages wears
  pub text_is : text ≡ page_lines pages wears ++ rest
  pub stops : ((length pages < page_count size) × NoPage size.words rest)
      ⊎ ((length pages ≡ page_count size) × (rest ≢ []))
  pub number : n ≡ length pages + 2

-- the first line is good, and line n is the first bad one
pub record IsBadLater (text : List ℕ) (n : ℕ) : Type 0 where
  pub size : Size
  pub rest : List ℕ
  pub begins : BeginsWithSize text size rest
  pub within_limits : IsWithinLimits size
  pub bad : IsBadPage size rest n

-- line n is the first bad one
abbrev pub IsFirstBadImageLine : List ℕ → ℕ → Type 0
IsFirstBadImageLine text n = (NoSize text × (n ≡ 1)) ⊎ IsBadLater text n

-- the first line is good, and says a size outside the limits
pub record HasBadShape (text : List ℕ) : Type 0 where
  pub size : Size
  pub rest : List ℕ
  pub begins : BeginsWithSize text size rest
  pub outside : ¬ IsWithinLimits size

-- why a text is no device's, the first fault that applies
abbrev pub IsImageTextFault : List ℕ → ImageFault → Type 0
IsImageTextFault text TooLong = longest < length text
IsImageTextFault text (BadLine n) = (length text ≤ longest) × IsFirstBadImageLine text n
IsImageTextFault text BadShape = (length text ≤ longest) × HasBadShape text
IsImageTextFault text Memory = ⊥

-- why a text isn't read: it has that fault, or memory ran out while it was read
abbrev pub IsImageFault : List ℕ → ImageFault → Type 0
IsImageFault text fault = IsImageTextFault text fault ⊎ ((length text ≤ longest) × (fault ≡ Memory))
