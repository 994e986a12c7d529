-- The states of the pages after each call that ends whole: each law is proved by the
-- function of its name.
use Rattle.std.specs.Prelude.{◌≡◌, ◌<◌, ℕ, ◌+◌, ◌-◌, ◌==◌, ◌&&◌, not, nat_lt, if◌then◌else◌, Some, List, length}
use Rattle.ee_flash.specs.Device.{Device, IsFormed, page_at}
use Rattle.ee_pages.specs.Meaning.{Change, Map, changed_by, live_in}
use Rattle.ee_pages.specs.Page.{is_blank, is_marked, state_of_words}
use Rattle.ee_pages.specs.Sets.{first_page, live_of, other, page_of_slot}
use Rattle.ee_pages.specs.declared.side.Side.{Side}
use Rattle.ee_pages.specs.declared.side.Side.TheVariants.{First, Second}
use Rattle.ee_pages.specs.declared.state.Mark.TheVariants as marks
use Rattle.ee_pages.specs.declared.state.State.{State}
use Rattle.ee_pages.specs.declared.state.State.TheVariants.{Active, Erased, Erasing, Valid}
use Rattle.ee_core.specs.Calls.{ErasesOne, IsLowestPending}
use Rattle.ee_core.specs.Changes.{Appends, Moves}
use Rattle.ee_core.specs.Shown.{is_left}
use Rattle.ee_core.specs.Finished.{IsStore, last_used}
use Rattle.ee_core.specs.Openings.{IsFormatted, Opens}
use Rattle.ee_core.specs.Picture.{IsDrawn, moved_words, picture_of}
use Rattle.ee_core.specs.Puts.{AreApart}
use Rattle.ee_core.specs.State.{state_of}

-- the state of a page of a set
abbrev pub state_at : Side → Device → ℕ → State
state_at side device page = state_of_words (page_at device (first_page device.size side + page))

-- in a set that was filled up to this page
abbrev pub filled_state : ℕ → ℕ → State
filled_state last page =
    if nat_lt page last then Valid else (if page == last then Active else Erased)

-- In a live set that was marked up to this page, each page before it is valid; it is active, if
-- nothing says that it is valid already; and each other page is as before.
abbrev pub marked_state : Side → Device → ℕ → ℕ → State
marked_state side old last page =
    if nat_lt page last then Valid
    else
    (if (page == last)
    && not (is_marked old (first_page old.size side + page) marks.Valid) then Active else
    state_at side old page)

-- an append marks up to the page of its slot, and leaves the other set
abbrev pub StatesAfterAppend : Type 0
StatesAfterAppend =
    (old : Device) (change : Change) (new : Device) (side : Side) (generation page : ℕ)
    → IsStore old → Appends old change new
    → live_of old ≡ Some (side, generation) → page < old.size.pages
    → (state_at side new page
    ≡ marked_state side old (page_of_slot old.size (state_of old).fill) page)
    × (state_at (other side) new page ≡ state_at (other side) old page)

-- a transfer fills the other set, as far as the live addresses need; each page of the set that it
-- leaves may be erased, or is blank
abbrev pub StatesAfterTransfer : Type 0
StatesAfterTransfer =
    (old : Device) (changes : List Change) (new : Device) (side : Side) (generation page : ℕ)
    → IsStore old → Moves old changes new → AreApart changes
    → live_of old ≡ Some (side, generation) → page < old.size.pages
    → (state_at (other side) new page
    ≡ filled_state (page_of_slot old.size ((state_of new).fill - 1)) page)
    × (state_at side new page ≡ (if is_left changes side old page then Erasing else Erased))

-- an opening marks up to the last used page; and each page of the other set is erased as a
-- whole or may be erased
abbrev pub StatesAfterOpening : Type 0
StatesAfterOpening =
    (old new : Device) (side : Side) (generation page : ℕ) → Opens old new
    → live_of old ≡ Some (side, generation) → page < old.size.pages
    → (state_at side new page ≡ marked_state side old (last_used old side) page)
    × (state_at (other side) new page
    ≡ (if is_blank (page_at old (first_page old.size (other side) + page)) then Erased else
    Erasing))

-- a clean step erases the lowest page that waited, and leaves each other one
abbrev pub StatesAfterClean : Type 0
StatesAfterClean =
    (old new : Device) (lowest page : ℕ) → ErasesOne old new → IsLowestPending old lowest
    → state_of_words (page_at new page)
    ≡ (if page == lowest then Erased else state_of_words (page_at old page))

-- of a formatted device the first page is active, and each other one is erased
abbrev pub StatesAfterFormat : Type 0
StatesAfterFormat =
    (old new : Device) (page : ℕ) → IsFormatted old new → page < new.size.pages
    → (state_at First new page ≡ filled_state 0 page) × (state_at Second new page ≡ Erased)

-- a transfer writes a word for each address that has a value
abbrev pub MovedWordsAreLive : Type 0
MovedWordsAreLive =
    (changes : List Change) (map : Map) → AreApart changes
    → length (moved_words changes map) ≡ live_in (changed_by changes map)

-- devices of one size whose sets are drawn alike have one image
abbrev pub PicturesTellImages : Type 0
PicturesTellImages =
    (old new : Device) → IsFormed old → IsFormed new → new.size ≡ old.size
    → ((side : Side) → IsDrawn side new (picture_of side old))
    → new.image ≡ old.image
