-- Words in memory, in either form.
use Rattle.std.specs.Prelude.{List}
use Rattle.ee_flash.specs.declared.cells.Kept.{Kept}
use Rattle.ee_flash.specs.declared.cells.Kept.TheVariants.{Cells, Words}
use Rattle.ee_flash.specs.declared.word.Word.{Word}

module _ {A : Type 0} where
  -- the words that are kept
  abbrev pub words_of : Kept A → List Word
  words_of (Cells cells) = cells
  words_of (Words words) = words.items
