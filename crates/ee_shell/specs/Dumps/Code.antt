-- A coded number for each word, as bytes.
use Rattle.std.specs.Prelude.{◌≡◌, ℕ, List, map}
use Rattle.std.specs.Int.{to_le_bytes, w64}
use Rattle.std.specs.List.{All, flat_map}
use Rattle.ee_flash.specs.Size.{Size}
use Rattle.ee_flash.specs.declared.word.Word.{Word}
use Rattle.ee_nor.specs.Coded.Coded.{coded_word}
use Rattle.ee_nor.specs.Nor.{IsNorNumber}

-- the words are those of the numbers that the bytes spell, on a part of this size
pub record AreWordsOfCodes (size : Size) (dump : List ℕ) (words : List Word) : Type 0 where
  pub numbers : List ℕ
  pub fit : All IsNorNumber numbers
  pub bytes_are : dump ≡ flat_map (to_le_bytes w64) numbers
  pub words_are : words ≡ map (coded_word size) numbers
