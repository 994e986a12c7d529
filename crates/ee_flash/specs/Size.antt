-- How large a device is.
use Rattle.std.specs.Prelude.{◌≤◌, ℕ, ◌-◌, ◌*◌}

-- the pages of each of the two sets, and the words of a page
pub record Size : Type 0 where
  pub pages : ℕ
  pub words : ℕ

-- the size with these
abbrev pub size_of : ℕ → ℕ → Size
size_of pages words = record { pages = pages; words = words }

-- a set has 1 to 64 pages, and a page 5 to 512 words
pub record IsWithinLimits (size : Size) : Type 0 where
  pub some_pages : 1 ≤ size.pages
  pub few_pages : size.pages ≤ 64
  pub some_words : 5 ≤ size.words
  pub few_words : size.words ≤ 512

-- the pages of a device, which has two sets
abbrev pub page_count : Size → ℕ
page_count size = 2 * size.pages

-- the words of a page's header, below its slots
abbrev pub header_words : ℕ
header_words = 4

-- the slots of a set: the words of its pages behind the header of each
abbrev pub slot_count : Size → ℕ
slot_count size = size.pages * (size.words - header_words)
