-- What the pages of a part of X-CUBE-EEPROM hold, in the order in which it counts.
use Rattle.std.specs.Prelude.{◌≡◌, ◌<◌, ◌+◌, ◌&&◌, ◌||◌, ℕ, Bool, true, false, not, nat_lt, if◌then◌else◌, List, [], ◌∷◌, ◌++◌, zero, suc}
use Rattle.ee_flash.specs.Device.{Device, word_at}
use Rattle.ee_flash.specs.Size.{page_count}
use Rattle.ee_flash.specs.declared.word.Word.{Word}
use Rattle.ee_flash.specs.declared.word.Word.TheVariants as words
use Rattle.ee_codec.specs.Reading.{mark_of}
use Rattle.ee_pages.specs.Sets.{is_mark}
use Rattle.ee_pages.specs.declared.state.State.{State}
use Rattle.ee_pages.specs.declared.state.State.TheVariants.{Erased, Receive, Active, Valid, Erasing}
use Rattle.ee_image_store.specs.Told.{each_below}

-- the state word at this place of the page holds the mark
abbrev pub is_state_word : Device → ℕ → ℕ → Bool
is_state_word device page place = is_mark (mark_of (word_at device page place))

-- one of so many pages from the first on has the word of ERASING
unfoldable pub any_erasing : Device → ℕ → ℕ → Bool
any_erasing device first zero = false
any_erasing device first (suc count) =
    any_erasing device first count || is_state_word device (first + count) 3

-- a page of this one's set has it: the set was left, and all its values were copied
abbrev pub was_left : Device → ℕ → Bool
was_left device page =
    any_erasing device (if nat_lt page device.size.pages then 0 else device.size.pages) device.size.pages

-- each page of a set that was left is in ERASING, and any other in the state that the last of its
-- words names
abbrev pub is_in : State → Device → ℕ → Bool
is_in Erasing device page = was_left device page
is_in Valid device page = is_state_word device page 2 && not (was_left device page)
is_in Active device page =
    is_state_word device page 1 && not (is_state_word device page 2)
    && not (was_left device page)
is_in Receive device page =
    is_state_word device page 0 && not (is_state_word device page 1)
    && not (is_state_word device page 2) && not (was_left device page)
is_in Erased device page =
    not (is_state_word device page 0) && not (is_state_word device page 1)
    && not (is_state_word device page 2) && not (was_left device page)

-- each page is erased
abbrev pub IsUnused : Device → Type 0
IsUnused device = (page : ℕ) → page < page_count device.size → is_in Erased device page ≡ true

-- what a word holds
abbrev pub held_number : Word → List ℕ
held_number (words.Held number) = number ∷ []
held_number word = []

-- behind the header
abbrev pub slot_number : Device → ℕ → ℕ → List ℕ
slot_number device page at = if nat_lt at 4 then [] else held_number (word_at device page at)

-- what a page in this state holds
abbrev pub page_numbers : Device → State → ℕ → List ℕ
page_numbers device state page =
    if is_in state device page then each_below device.size.words (slot_number device page) else []

abbrev pub elements_in : Device → State → List ℕ
elements_in device state = each_below (page_count device.size) (page_numbers device state)

-- what the pages hold, the oldest first. Of a transfer that was cut the pages that receive come last,
-- and those whose values were all copied come first.
abbrev pub numbers_of : Device → List ℕ
numbers_of device =
    elements_in device Erasing ++ (elements_in device Valid
    ++ (elements_in device Active ++ elements_in device Receive))
