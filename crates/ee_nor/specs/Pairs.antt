-- Words on a flash that has none: a number beside its complement.
use Rattle.std.specs.Prelude.{◌≡◌, ◌≢◌, ◌<◌, ◌≤◌, ℕ, ◌+◌, ◌*◌, ◌-◌, ◌==◌, if◌then◌else◌, false, List, None, Some, map}
use Rattle.std.specs.List.{range_with_len}
use Rattle.ee_flash.specs.Device.{Device, all_ones}
use Rattle.ee_flash.specs.Runs.{number_of}
use Rattle.ee_flash.specs.Size.{page_count}
use Rattle.ee_flash.specs.declared.word.Word.{Word}
use Rattle.ee_flash.specs.declared.word.Word.TheVariants.{Erased, Held, Torn}
use Rattle.ee_nor.specs.Nor.{NorDevice, number_in, numbers_at}
use Rattle.ee_nor.specs.declared.low_pair.LowPair.{LowPair}

-- the number that has a one where this one has a zero
abbrev pub complement : ℕ → ℕ
complement number = all_ones - number

-- the word that two numbers are: erased where both are all ones, held where the second is the
-- complement of the first, which is not all ones; else torn
abbrev pub pair_word : ℕ → ℕ → Word
pair_word number check =
    if number == all_ones then (if check == all_ones then Erased else Torn)
    else (if check == complement number then Held number else Torn)

-- the word of this number in a page, counted from 0: two numbers of it
abbrev pub pair_in : List ℕ → ℕ → Word
pair_in numbers word = pair_word (number_in numbers (2 * word)) (number_in numbers (2 * word + 1))

-- the words of a page, so many of them
unfoldable pub pair_words : ℕ → List ℕ → List Word
pair_words count numbers = map (pair_in numbers) (range_with_len 0 count)

-- the numbers of so many words of a page, from a word on, as a run of them has them
abbrev pub run_of_pairs : List ℕ → ℕ → ℕ → List ℕ
run_of_pairs numbers at count =
    map (λ word. number_of (pair_in numbers word)) (range_with_len at count)

-- the device of words that a device of numbers is
abbrev pub paired_device : NorDevice → Device
paired_device nor = record {
  size = nor.size;
  image = map (pair_words nor.size.words) nor.image;
  wear = nor.wear;
  cuts = nor.cuts;
  cuts_left = nor.cuts_left;
  fuse = None;
  on = nor.on;
}

-- the two numbers of a word, added
abbrev pub sum_in : List ℕ → ℕ → ℕ
sum_in numbers word = number_in numbers (2 * word) + number_in numbers (2 * word + 1)

-- no word of the page sums to less than all ones
abbrev pub IsHigh : List ℕ → Type 0
IsHigh numbers = (word : ℕ) → all_ones ≤ sum_in numbers word

-- none of the words from one on, and before another
abbrev pub AreHigh : List ℕ → ℕ → ℕ → Type 0
AreHigh numbers from to = (word : ℕ) → from ≤ word → word < to → all_ones ≤ sum_in numbers word

-- No word sums to less than all ones. Of one that did, an erase that is cut could make a
-- number that nobody wrote.
abbrev pub NoLowPair : NorDevice → Type 0
NoLowPair nor = (page : ℕ) → IsHigh (numbers_at nor page)

-- power may be cut in a step to come
abbrev pub MayBeCut : NorDevice → Type 0
MayBeCut nor = nor.cuts_left ≢ Some 0

-- No erase that is cut makes a number: where the flash doesn't clear first, and may be cut, no word
-- sums to less than all ones.
abbrev pub IsSafe : NorDevice → Type 0
IsSafe nor = nor.clears_first ≡ false → MayBeCut nor → NoLowPair nor

-- this word of a page is the first that sums to less than all ones
pub record IsFirstLowIn (numbers : List ℕ) (word : ℕ) : Type 0 where
  pub low : sum_in numbers word < all_ones
  pub none_before : (other : ℕ) → other < word → all_ones ≤ sum_in numbers other

-- this word of the device is the first: it is of its page, and no page before has any
pub record IsFirstLow (nor : NorDevice) (pair : LowPair) : Type 0 where
  pub page_in_range : pair.page < page_count nor.size
  pub word_in_range : pair.word < nor.size.words
  pub first_in_its_page : IsFirstLowIn (numbers_at nor pair.page) pair.word
  pub none_before : (page : ℕ) → page < pair.page → IsHigh (numbers_at nor page)

-- what keeps a flash from being one of words: its erases don't clear first, and this is its first
-- word that sums to less than all ones
abbrev pub IsLowFault : NorDevice → LowPair → Type 0
IsLowFault nor pair = (nor.clears_first ≡ false) × IsFirstLow nor pair
