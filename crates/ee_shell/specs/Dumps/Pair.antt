-- Two numbers for each word, as bytes.
use Rattle.std.specs.Prelude.{◌≡◌, ◌<◌, ◌≤◌, ℕ, ◌+◌, ◌*◌, List, ◌++◌, map, slice_index_or}
use Rattle.std.specs.Int.{to_le_bytes, w64}
use Rattle.std.specs.List.{All, flat_map}
use Rattle.ee_flash.specs.Size.{Size}
use Rattle.ee_flash.specs.Device.{all_ones}
use Rattle.ee_flash.specs.declared.word.Word.{Word}
use Rattle.ee_nor.specs.Nor.{IsNorNumber}
use Rattle.ee_nor.specs.Pairs.{pair_word}

-- a number, and the one beside it
pub record Pair : Type 0 where
  pub number : ℕ
  pub check : ℕ

-- of erased flash
abbrev pub erased_pair : Pair
erased_pair = record { number = all_ones; check = all_ones }

abbrev pub pair_bytes : Pair → List ℕ
pair_bytes pair = to_le_bytes w64 pair.number ++ to_le_bytes w64 pair.check

abbrev pub word_of_pair : Pair → Word
word_of_pair pair = pair_word pair.number pair.check

abbrev pub pair_sum : Pair → ℕ
pair_sum pair = pair.number + pair.check

-- both numbers fit 64 bits
abbrev pub IsPair : Pair → Type 0
IsPair pair = IsNorNumber pair.number × IsNorNumber pair.check

-- they sum to all ones at least
abbrev pub IsHighPair : Pair → Type 0
IsHighPair pair = all_ones ≤ pair_sum pair

-- these are the bytes of these pairs
pub record AreBytesOf (dump : List ℕ) (pairs : List Pair) : Type 0 where
  pub fit : All IsPair pairs
  pub bytes_are : dump ≡ flat_map pair_bytes pairs

-- the words are those of the pairs that the bytes spell, none of which sums to less than all ones
pub record AreWordsOfPairs (dump : List ℕ) (words : List Word) : Type 0 where
  pub pairs : List Pair
  pub spelled : AreBytesOf dump pairs
  pub high : All IsHighPair pairs
  pub words_are : words ≡ map word_of_pair pairs

-- what the two numbers of the word with this number sum to
abbrev pub sum_at : List Pair → ℕ → ℕ
sum_at pairs place = pair_sum (slice_index_or pairs place erased_pair)

-- Of the pairs that the bytes spell this one, by page and place, sums to less than all ones, and
-- none before it does.
pub record IsFirstLowPair (size : Size) (dump : List ℕ) (page at : ℕ) : Type 0 where
  pub pairs : List Pair
  pub spelled : AreBytesOf dump pairs
  pub place_in_range : at < size.words
  pub low : sum_at pairs (page * size.words + at) < all_ones
  pub none_before : (k : ℕ) → k < page * size.words + at → all_ones ≤ sum_at pairs k
