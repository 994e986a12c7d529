-- What a call leaves, word for word. A set is drawn as a picture: the word at each place
-- of each of its pages.
use Rattle.std.specs.Prelude.{◌≡◌, ◌<◌, ℕ, ◌+◌, ◌-◌, ◌==◌, ◌&&◌, ◌||◌, Bool, not, nat_lt, nat_le, if◌then◌else◌, Option, Some, None, List, [], ◌∷◌, ◌++◌, length, slice_index_or, zero, suc}
use Rattle.ee_flash.specs.Device.{Device, page_at, word_at}
use Rattle.ee_flash.specs.Size.{Size}
use Rattle.ee_flash.specs.declared.word.Word.{Word}
use Rattle.ee_flash.specs.declared.word.Word.TheVariants.{Erased, Held, Torn}
use Rattle.ee_codec.specs.Words.{element, forgetting}
use Rattle.ee_pages.specs.Legal.{slots_before}
use Rattle.ee_pages.specs.Meaning.{Change, Map, Put, Forget, map_after}
use Rattle.ee_pages.specs.Page.{is_blank, number_of_mark}
use Rattle.ee_pages.specs.Pending.{address_of}
use Rattle.ee_pages.specs.Sets.{first_page, live_of, page_of_slot, place_of_slot}
use Rattle.ee_pages.specs.declared.side.Side.{Side}
use Rattle.ee_pages.specs.declared.state.Mark.{Mark}
use Rattle.ee_pages.specs.declared.state.Mark.TheVariants.{Active, Erasing, Receive, Valid}

-- the words of a set, by page and then place
abbrev pub Picture : Type 0
Picture = ℕ → ℕ → Word

-- as a set is
abbrev pub picture_of : Side → Device → Picture
picture_of side device page at = word_at device (first_page device.size side + page) at

-- each word of the set is as the picture shows it
abbrev pub IsDrawn : Side → Device → Picture → Type 0
IsDrawn side device picture =
    (page at : ℕ) → page < device.size.pages → at < device.size.words
    → picture_of side device page at ≡ picture page at

-- it holds of the live set and its generation
abbrev pub OfLive : Device → (Side → ℕ → Type 0) → Type 0
OfLive device Holds =
    (side : Side) × (generation : ℕ) × (live_of device ≡ Some (side, generation))
    × Holds side generation

-- a set of blank pages
abbrev pub blank_picture : Picture
blank_picture page at = Erased

-- with this word in one place
abbrev pub picture_with_word : ℕ → ℕ → Word → Picture → Picture
picture_with_word there place word picture page at =
    if (page == there) && (at == place) then word else picture page at

-- A mark is set where its word is erased; a word that is written already, whole or torn, stays.
abbrev pub marked_word : Mark → Word → Word
marked_word mark Erased = Held (number_of_mark mark)
marked_word mark (Held number) = Held number
marked_word mark Torn = Torn

-- the marks of a live set that is in use up to this page: each page before it is marked valid, and
-- it is marked active
abbrev pub marked_to : ℕ → Picture → Picture
marked_to last picture page at =
    if (at == 2) && nat_lt page last then marked_word Valid (picture page at)
    else
    (if (at == 1)
    && (page == last) then marked_word Active (picture page at) else picture page at)

-- whether a page of a set is not blank
abbrev pub is_used : Side → Device → ℕ → Bool
is_used side device page = not (is_blank (page_at device (first_page device.size side + page)))

-- the mark of each of these pages that it may be erased
abbrev pub retired_pages : (ℕ → Bool) → Picture → Picture
retired_pages waits picture page at =
    if (at == 3) && waits page then marked_word Erasing (picture page at) else picture page at

-- the number of a change's word: a forgetting has the value forgotten
abbrev pub value_forgotten : Option ℕ → ℕ
value_forgotten None = 0
value_forgotten (Some value) = value

abbrev pub number_of_change : Map → Change → ℕ
number_of_change map (Put address value) = element address value
number_of_change map (Forget address) = forgetting address (value_forgotten (map address))

-- Appended, a change stands in the first free slot, so many being used, and the set is marked up to
-- the page of that slot. In a store all of these marks are set already, but for two where that slot
-- is the first of a further page.
abbrev pub with_change : Size → ℕ → ℕ → Picture → Picture
with_change size fill number picture =
    picture_with_word (page_of_slot size fill) (place_of_slot size fill) (Held number)
    (marked_to (page_of_slot size fill) picture)

-- the element of an address that has a value
abbrev pub element_at : ℕ → Option ℕ → List Word
element_at address None = []
element_at address (Some value) = Held (element address value) ∷ []

-- the elements of the addresses 1 to this one, by rising address
unfoldable pub elements_to : Map → ℕ → List Word
elements_to map zero = []
elements_to map (suc address) =
    elements_to map address ++ element_at (suc address) (map (suc address))

-- of all addresses
abbrev pub elements_of : Map → List Word
elements_of map = elements_to map 65534

-- the elements of the values that changes put, in their order; a forgetting has none
abbrev pub put_words : List Change → List Word
put_words [] = []
put_words (Put address value ∷ changes) = Held (element address value) ∷ put_words changes
put_words (Forget address ∷ changes) = put_words changes

-- the map without the addresses of these changes
abbrev pub map_without : List Change → Map → Map
map_without [] map = map
map_without (change ∷ changes) map =
    map_without changes (map_after (Forget (address_of change)) map)

-- what a transfer puts into the new set: the elements that are put first, and then those of
-- the other addresses
abbrev pub moved_words : List Change → Map → List Word
moved_words changes map = put_words changes ++ elements_of (map_without changes map)

-- a mark on some pages, and none on the others
abbrev pub mark_where : Bool → Mark → Word
mark_where here mark = if here then Held (number_of_mark mark) else Erased

-- A set as a transfer or a format leaves it, with these words in its slots. The page of the last of
-- them is the last used one, or the first page where there are none: each page up to it takes
-- elements of this generation, it is marked active and so is the first, those before it are marked
-- valid, and all else is erased.
abbrev pub filled_set : Size → ℕ → List Word → Picture
filled_set size generation words page at =
    let last = page_of_slot size (length words - 1) in
    if nat_lt 3 at then slice_index_or words (slots_before size page at) Erased
    else (if at == 0 then mark_where (nat_le page last) (Receive generation)
    else (if at == 1 then mark_where ((page == 0) || (page == last)) Active
    else (if at == 2 then mark_where (nat_lt page last) Valid else Erased)))
