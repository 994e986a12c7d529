-- What the bytes of a device's words are.
use Rattle.std.specs.Prelude.{◌≡◌, ◌≢◌, ◌<◌, ℕ, List, [], ◌++◌, replicate}
use Rattle.std.specs.Int.{to_le_bytes, w64}
use Rattle.std.specs.List.{flat_map}
use Rattle.ee_flash.specs.Size.{Size}
use Rattle.ee_flash.specs.Device.{Device, blank_device, word_at}
use Rattle.ee_flash.specs.declared.word.Word.{Word}
use Rattle.ee_flash.specs.declared.word.Word.TheVariants.{Erased, Held, Torn}
use Rattle.ee_nor.specs.Pairs.{complement}
use Rattle.ee_nor.specs.Coded.Coded.{coded_number}
use Rattle.ee_shell.specs.Dumps.Code.{AreWordsOfCodes}
use Rattle.ee_shell.specs.Dumps.Pair.{AreWordsOfPairs}
use Rattle.ee_shell.specs.Dumps.Places.{HasAllCodes}
use Rattle.ee_interface.specs.declared.command_line.form.Form.{Form}
use Rattle.ee_interface.specs.declared.command_line.form.Form.TheVariants.{Words, Pairs, Coded}

-- the eight bytes of a word as it is: erased flash reads as ones, a number has its least byte first,
-- and a torn word has none
abbrev pub plain_bytes : Word → List ℕ
plain_bytes Erased = replicate 8 255
plain_bytes (Held value) = to_le_bytes w64 value
plain_bytes Torn = []

-- twice eight, of which the second are those of the complement
abbrev pub paired_bytes : Word → List ℕ
paired_bytes Erased = replicate 16 255
paired_bytes (Held value) = to_le_bytes w64 value ++ to_le_bytes w64 (complement value)
paired_bytes Torn = []

-- the eight of the coded word, whose mark says the size
abbrev pub coded_bytes : Size → Word → List ℕ
coded_bytes size Erased = replicate 8 255
coded_bytes size (Held value) = to_le_bytes w64 (coded_number size value)
coded_bytes size Torn = []

-- the bytes of a word
abbrev pub word_bytes : Form → Size → Word → List ℕ
word_bytes Words size = plain_bytes
word_bytes Pairs size = paired_bytes
word_bytes Coded size = coded_bytes size

-- the words of a device, page after page
abbrev pub device_words : Device → List Word
device_words device = flat_map (λ page. page) device.image

-- no word of the page is torn
abbrev pub IsWholePage : Device → ℕ → Type 0
IsWholePage device page = (at : ℕ) → word_at device page at ≢ Torn

-- where a part has coded words, each number that is held has one
abbrev pub IsCodable : Form → Device → Type 0
IsCodable Words device = Unit {0}
IsCodable Pairs device = Unit {0}
IsCodable Coded device = HasAllCodes device

-- no word of the device is torn, and these are the bytes of all of them
pub record IsDump (form : Form) (device : Device) (dump : List ℕ) : Type 0 where
  pub whole : (page : ℕ) → IsWholePage device page
  pub codable : IsCodable form device
  pub bytes_are : dump ≡ flat_map (word_bytes form device.size) (device_words device)

-- the word there is torn; no page before has a torn word, and no place before in this page
pub record IsFirstTorn (device : Device) (page at : ℕ) : Type 0 where
  pub torn : word_at device page at ≡ Torn
  pub whole_before : (k : ℕ) → k < page → IsWholePage device k
  pub none_before : (k : ℕ) → k < at → word_at device page k ≢ Torn

-- the bytes spell the words of the device, of which pairs and coded words may spell torn ones too
abbrev pub IsSpelledBy : Form → List ℕ → Device → Type 0
IsSpelledBy Words dump device = IsDump Words device dump
IsSpelledBy Pairs dump device = AreWordsOfPairs dump (device_words device)
IsSpelledBy Coded dump device = AreWordsOfCodes device.size dump (device_words device)

-- the device of this size with these words, which but for them was never used
pub record IsImport (form : Form) (size : Size) (dump : List ℕ) (device : Device) : Type 0 where
  pub never_used : device ≡ record (blank_device size) { image = device.image }
  pub dump_is : IsSpelledBy form dump device
