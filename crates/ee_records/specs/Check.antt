-- The check of a record: CRC-32, that of Ethernet and zip, of the length in four bytes, lowest first,
-- and of the bytes, filled up with zeros to a multiple of four.
use Rattle.std.specs.Prelude.{◌+◌, ◌*◌, ◌-◌, ◌/◌, ◌%◌, ◌==◌, ℕ, List, bit_xor, if◌then◌else◌, length, slice_index, suc, zero}

-- how many words so many bytes take, four a word
abbrev pub words_for : ℕ → ℕ
words_for bytes = (bytes + 3) / 4

-- the word of this number of these bytes, the lowest byte first, with zeros behind the last byte
abbrev pub bytes_word : List ℕ → ℕ → ℕ
bytes_word bytes word =
    slice_index bytes (4 * word) + 256 * slice_index bytes (4 * word + 1)
    + 65536 * slice_index bytes (4 * word + 2) + 16777216 * slice_index bytes (4 * word + 3)

-- the polynomial of IEEE 802.3, its highest term in the lowest bit: EDB88320
abbrev pub polynomial : ℕ
polynomial = 3988292384

-- a remainder, one bit further
abbrev pub bit_further : ℕ → ℕ
bit_further rest = if rest % 2 == 1 then bit_xor (rest / 2) polynomial else rest / 2

-- so many bits further
unfoldable pub bits_further : ℕ → ℕ → ℕ
bits_further zero rest = rest
bits_further (suc bits) rest = bit_further (bits_further bits rest)

-- a word of 32 bits further
abbrev pub word_further : ℕ → ℕ → ℕ
word_further rest word = bits_further 32 (bit_xor rest word)

-- the remainder of the length and so many words of these bytes
unfoldable pub remainder : List ℕ → ℕ → ℕ
remainder bytes zero = word_further 4294967295 (length bytes)
remainder bytes (suc words) = word_further (remainder bytes words) (bytes_word bytes words)

-- the check of these bytes
abbrev pub check_of : List ℕ → ℕ
check_of bytes = 4294967295 - remainder bytes (words_for (length bytes))
