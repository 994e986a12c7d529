-- What the parts of the reader give.
use Rattle.std.specs.Prelude.{◌≡◌, ◌≢◌, ℕ, ◌*◌, ◌/◌, List, length, take}
use Rattle.std.specs.List.{All, flat_map}
use Rattle.ee_flash.specs.Device.{IsBelowAllOnes}
use Rattle.ee_flash.specs.Size.{Size, page_count}
use Rattle.ee_flash.specs.declared.word.Word.{Word}
use Rattle.ee_flash.specs.declared.word.Word.TheVariants.{Torn}
use Rattle.ee_shell.specs.Dumps.Code.{AreWordsOfCodes}
use Rattle.ee_shell.specs.Dumps.Dump.{plain_bytes}
use Rattle.ee_shell.specs.Dumps.Pair.{AreWordsOfPairs}
use Rattle.ee_interface.specs.declared.command_line.form.Form.{Form}
use Rattle.ee_interface.specs.declared.command_line.form.Form.TheVariants.{Words, Pairs, Coded}

-- words that can stand in a device, and are not torn
pub record AreWhole (words : List Word) : Type 0 where
  pub none_torn : All (λ word. word ≢ Torn) words
  pub below_all_ones : All IsBelowAllOnes words

-- these are the words of the bytes, up to a rest that is shorter than a word
pub record AreWords (dump : List ℕ) (words : List Word) : Type 0 where
  pub as_many : length words ≡ length dump / 8
  pub whole : AreWhole words
  pub bytes_are : flat_map plain_bytes words ≡ take (8 * length words) dump

-- these words, of a device of this size, are spelled by the bytes
abbrev pub AreSpelledBy : Form → Size → List ℕ → List Word → Type 0
AreSpelledBy Words size dump words = AreWhole words × (flat_map plain_bytes words ≡ dump)
AreSpelledBy Pairs size dump words = AreWordsOfPairs dump words
AreSpelledBy Coded size dump words = AreWordsOfCodes size dump words

-- the words of a device of this size, which the bytes spell
pub record AreCells (form : Form) (size : Size) (dump : List ℕ) (words : List Word) : Type 0 where
  pub as_many : length words ≡ page_count size * size.words
  pub below_all_ones : All IsBelowAllOnes words
  pub spelled : AreSpelledBy form size dump words
