-- Which set of a device with any words whatever is rescued, what it says, and which of its words
-- are bad. RescueLaws has what holds of it.
use Rattle.std.specs.Prelude.{ℕ, ◌+◌, Bool, true, false, not, ◌&&◌, ◌||◌, ◌==◌, nat_lt, is_some, if◌then◌else◌, Option, Some, None, List, [], ◌∷◌, zero, suc}
use Rattle.std.specs.List.{list_any}
use Rattle.ee_flash.specs.Device.{Device}
use Rattle.ee_flash.specs.Size.{Size}
use Rattle.ee_flash.specs.declared.word.Word.{Word}
use Rattle.ee_codec.specs.Reading.{mark_of, receive_of}
use Rattle.ee_pages.specs.Legal.{is_allowed_at}
use Rattle.ee_pages.specs.Meaning.{Map, meaning}
use Rattle.ee_pages.specs.Page.{is_torn, is_written, word_in}
use Rattle.ee_pages.specs.Sets.{committed_generation, is_mark, set_of, slots_of, word_of}
use Rattle.ee_pages.specs.declared.side.Side.{Side}
use Rattle.ee_pages.specs.declared.side.Side.TheVariants.{First, Second}

-- something was programmed where the mark that commits the set stands, whole or not
abbrev pub has_begun : List (List Word) → Bool
has_begun pages = is_written (word_of pages 0 1)

-- a page of the set has the whole mark that it may be erased
abbrev pub is_left_behind : List (List Word) → Bool
is_left_behind pages = list_any (λ words. is_mark (mark_of (word_in words 3))) pages

abbrev pub or_later : Option ℕ → ℕ → ℕ
or_later None later = later
or_later (Some generation) later = generation

-- the generation that the set names: that of its first receive word that can be read, by page,
-- and 1 where none can
abbrev pub named_generation : List (List Word) → ℕ
named_generation [] = 1
named_generation (words ∷ pages) = or_later (receive_of (word_in words 0)) (named_generation pages)

-- the one of the two sets of which this holds, if it holds of one alone
abbrev pub only : Bool → Bool → Option Side
only true false = Some First
only false true = Some Second
only true true = None
only false false = None

abbrev pub or_else : Option Side → Side → Side
or_else None side = side
or_else (Some found) side = found

-- Of two sets the one that is rescued, by the first of these rules that tells them apart: one alone
-- is begun; one alone has no mark that it may be erased; one alone is committed; the generation
-- that it names is greater, and the first of equals.
abbrev pub rescued_of : List (List Word) → List (List Word) → Option Side
rescued_of first second =
    if not (has_begun first || has_begun second) then None
    else Some (or_else (only (has_begun first) (has_begun second))
    (or_else (only (not (is_left_behind first)) (not (is_left_behind second)))
    (or_else (only (is_some (committed_generation first)) (is_some (committed_generation second)))
    (if nat_lt (named_generation first) (named_generation second) then Second else First))))

-- the set that is rescued; none where no set is begun
abbrev pub rescued_side : Device → Option Side
rescued_side device = rescued_of (set_of First device) (set_of Second device)

abbrev pub map_of_side : Device → Option Side → Map
map_of_side device None address = None
map_of_side device (Some side) address = meaning (slots_of (set_of side device)) address

-- the map that is rescued
abbrev pub rescued_map : Device → Map
rescued_map device = map_of_side device (rescued_side device)

-- ---- bad words

-- the word does not commit the set, in one of the two places that do
abbrev pub fails_to_commit : ℕ → ℕ → Word → Bool
fails_to_commit page at word =
    (page == 0)
    && (((at == 0) && not (is_some (receive_of word))) ||
    ((at == 1) && not (is_mark (mark_of word))))

-- a word of a set can't be read, or may not stand in its place
abbrev pub is_bad : Size → List (List Word) → ℕ → ℕ → Bool
is_bad size pages page at =
    is_torn (word_of pages page at) || not
    (is_allowed_at size (named_generation pages) pages page at) || fails_to_commit page at
    (word_of pages page at)

-- how many of the numbers below this one pass the test
unfoldable pub count_below : (ℕ → Bool) → ℕ → ℕ
count_below test zero = 0
count_below test (suc number) = count_below test number + (if test number then 1 else 0)

-- how many words of the first pages of a set, so many, are bad
unfoldable pub bad_in_pages : Size → List (List Word) → ℕ → ℕ
bad_in_pages size pages zero = 0
bad_in_pages size pages (suc page) =
    bad_in_pages size pages page + count_below (is_bad size pages page) size.words

abbrev pub bad_words_in : Device → Option Side → ℕ
bad_words_in device None = 0
bad_words_in device (Some side) = bad_in_pages device.size (set_of side device) device.size.pages

-- how many words of the set that is rescued are bad
abbrev pub bad_words : Device → ℕ
bad_words device = bad_words_in device (rescued_side device)
