-- Words of a page one behind another, as numbers, and as what they read as.
use Rattle.std.specs.Prelude.{◌≡◌, ◌<◌, ◌⊎◌, ℕ, ◌%◌, ◌^◌, ◌==◌, ◌&&◌, if◌then◌else◌, Bool, true, false, List, [], ◌∷◌, length, take, drop, slice_index, slice_index_or}
use Rattle.ee_flash.specs.Device.{Device, IsBelowAllOnes, all_ones, page_at}
use Rattle.ee_flash.specs.Numbers.{IsSlotNumber}
use Rattle.ee_flash.specs.declared.word.Word.{Word}
use Rattle.ee_flash.specs.declared.word.Word.TheVariants.{Erased, Held, Torn}

-- the number of a word: all ones where it is erased, and 0 where it is torn, as where it holds 0
abbrev pub number_of : Word → ℕ
number_of Erased = all_ones
number_of (Held value) = value
number_of Torn = 0

-- whether a word is torn
abbrev pub torn_flag : Word → Bool
torn_flag Torn = true
torn_flag word = false

-- the word of this number: a 0 is that of a torn word where the flag is set
abbrev pub flagged_word : ℕ → Bool → Word
flagged_word number torn =
    if number == all_ones then Erased else (if (number == 0) && torn then Torn else Held number)

-- the words of these numbers and flags
unfoldable pub flagged_words : List ℕ → List Bool → List Word
flagged_words [] flags = []
flagged_words (number ∷ numbers) [] = []
flagged_words (number ∷ numbers) (torn ∷ flags) =
    flagged_word number torn ∷ flagged_words numbers flags

-- so many words of a page, from a place on
abbrev pub words_from : Device → ℕ → ℕ → ℕ → List Word
words_from device page at count = take count (drop at (page_at device page))

-- ---- readings

-- each of these words reads so, by what a word may read as
pub record AreReadings (reads : Word → ℕ → Type 0) (words : List Word) (readings : List ℕ)
    : Type 0 where
  pub as_many : length readings ≡ length words
  pub each : (k : ℕ) → k < length words
      → reads (slice_index_or words k Erased) (slice_index readings k)

-- a word reads as its number
abbrev pub IsOwnReading : Word → ℕ → Type 0
IsOwnReading word reading = reading ≡ number_of word

-- what a reading shows as it is: whether the word is erased, and the address in a slot's number
pub record IsShownBy (word : Word) (reading : ℕ) : Type 0 where
  pub erased : word ≡ Erased → reading ≡ all_ones
  pub only_erased : reading ≡ all_ones → IsBelowAllOnes word → word ≡ Erased
  pub address : IsSlotNumber (number_of word) → reading % 2 ^ 16 ≡ number_of word % 2 ^ 16

-- A number by which a word is judged with no check: where the word has a slot's it is that. Where
-- it is a slot's, and doesn't end in 65535, as that of an erased word may, the word holds it, or is
-- torn.
pub record IsInClear (word : Word) (number : ℕ) : Type 0 where
  pub slot : IsSlotNumber (number_of word) → number ≡ number_of word
  pub held : IsSlotNumber number → number % 2 ^ 16 < 65535 → (word ≡ Held number) ⊎ (word ≡ Torn)
