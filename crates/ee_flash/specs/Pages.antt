-- A list of words cut into pages.
use Rattle.std.specs.Prelude.{ℕ, ◌*◌, List, map, take, drop}
use Rattle.std.specs.List.{range_with_len}
use Rattle.ee_flash.specs.Size.{Size, page_count}
use Rattle.ee_flash.specs.declared.word.Word.{Word}

-- the words of one page
abbrev pub page_words : Size → List Word → ℕ → List Word
page_words size cells page = take size.words (drop (page * size.words) cells)

-- the pages, one after another
unfoldable pub pages_of : Size → List Word → List (List Word)
pages_of size cells = map (page_words size cells) (range_with_len 0 (page_count size))
