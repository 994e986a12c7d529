-- What the parts of a call leave: a call is one after another of them.
use Rattle.std.specs.Prelude.{◌≡◌, ◌≢◌, ◌<◌, ◌⊎◌, ℕ, ◌+◌, ◌-◌, ◌*◌, ◌==◌, ◌&&◌, nat_le, nat_lt, if◌then◌else◌, Bool, true, Some, None, Result, Ok, Err, List, [], ◌∷◌, ◌++◌, length, slice_index_or}
use Rattle.ee_codec.specs.Words.{element, forgetting}
use Rattle.ee_flash.specs.Device.{Device, IsOn, page_at, word_at}
use Rattle.ee_flash.specs.Size.{Size, header_words}
use Rattle.ee_flash.specs.Step.{IsPartlyErased}
use Rattle.ee_flash.specs.declared.word.Word.{Word}
use Rattle.ee_flash.specs.declared.word.Word.TheVariants.{Erased}
use Rattle.ee_pages.specs.Laws.{KeepsLiveSet, KeepsSide}
use Rattle.ee_pages.specs.Legal.{IsLive, slots_before}
use Rattle.ee_pages.specs.Meaning.{Change, Map, Put, Forget, changed_by, live_in, meaning}
use Rattle.ee_pages.specs.Page.{is_blank, is_marked, place_of_mark}
use Rattle.ee_pages.specs.Sets.{committed_generation, fill_of, first_page, other, page_of_slot, pending_of, place_of_slot, set_of, slots_of}
use Rattle.ee_pages.specs.declared.side.Side.{Side}
use Rattle.ee_pages.specs.declared.state.Mark.{Mark}
use Rattle.ee_pages.specs.declared.state.Mark.TheVariants.{Active, Receive, Valid}
use Rattle.ee_core.specs.Picture.{IsDrawn, Picture, mark_where, marked_word}
use Rattle.ee_core.specs.State.{Wears, not_blank_in}
use Rattle.ee_core.specs.declared.change.Change as declared
use Rattle.ee_core.specs.declared.change.Change.TheVariants as kinds
use Rattle.ee_core.specs.declared.copying.Place.{Place}

-- what a change of the program means; the value that is forgotten means nothing
abbrev pub map_change : declared.Change → Change
map_change (kinds.Put address value) = Put address value
map_change (kinds.Forget address value) = Forget address

-- the number of its word
abbrev pub number_written : declared.Change → ℕ
number_written (kinds.Put address value) = element address value
number_written (kinds.Forget address value) = forgetting address value

-- a value that it forgets is the one that the map has
abbrev pub ForgetsHeld : Map → declared.Change → Type 0
ForgetsHeld map (kinds.Put address value) = Unit {0}
ForgetsHeld map (kinds.Forget address value) = map address ≡ Some value

-- the map that the slots of a set hold
abbrev pub map_in : Side → Device → Map
map_in side device = meaning (slots_of (set_of side device))

-- the set is committed with a generation below this one, if at all
abbrev pub IsOlder : Device → Side → ℕ → Type 0
IsOlder device side generation =
    (committed : ℕ) → committed_generation (set_of side device) ≡ Some committed
    → committed < generation

-- the live set, the pages of the other set that are not blank and all wear are as before
pub record Stays (old new : Device) (side : Side) (generation : ℕ) : Type 0 where
  pub keeps : KeepsLiveSet old new side generation
  pub same_pending : not_blank_in (other side) new ≡ not_blank_in (other side) old
  pub same_wear : new.wear ≡ old.wear

-- no mark is lost
abbrev pub KeepsMarks : Device → Device → Type 0
KeepsMarks old new =
    (page : ℕ) (mark : Mark) → is_marked old page mark ≡ true → is_marked new page mark ≡ true

-- each page but this one is as before
abbrev pub IsSameBut : ℕ → Device → Device → Type 0
IsSameBut changed old new = (page : ℕ) → page ≢ changed → page_at new page ≡ page_at old page

-- the pages of a set are as before
abbrev pub IsSameSet : Side → Device → Device → Type 0
IsSameSet side old new = set_of side new ≡ set_of side old

-- this page of the other set, which was not blank, was erased, once, and nothing else changed
pub record PageErased (old new : Device) (side : Side) (page : ℕ) : Type 0 where
  pub keeps : KeepsSide old new side
  pub others : IsSameBut page old new
  pub blank : is_blank (page_at new page) ≡ true
  pub one_less : pending_of (set_of (other side) new) + 1 ≡ pending_of (set_of (other side) old)
  pub wear : Wears (page ∷ []) old new

-- or power was cut in it: each of its words is as before, erased or torn, and so the page
-- waits still, or doesn't
pub record PageErasedPartly (old new : Device) (side : Side) (page : ℕ) : Type 0 where
  pub keeps : KeepsSide old new side
  pub others : IsSameBut page old new
  pub partly : IsPartlyErased (page_at old page) (page_at new page)
  pub cut : (pending_of (set_of (other side) new) ≡ pending_of (set_of (other side) old))
      ⊎ (pending_of (set_of (other side) new) + 1 ≡ pending_of (set_of (other side) old))
  pub wear : IsOn old → Wears (page ∷ []) old new

-- the erase ends so
abbrev pub ErasesPage : {T E : Type 0} → Result T E → Device → Device → Side → ℕ → Type 0
ErasesPage (Ok done) old new side page = PageErased old new side page
ErasesPage (Err cut) old new side page = PageErasedPartly old new side page

-- the page of this slot is marked as the one that is used, and those before it as used up
pub record IsReady (device : Device) (side : Side) (slot : ℕ) : Type 0 where
  pub valid : (page : ℕ) → page < page_of_slot device.size slot
      → is_marked device (first_page device.size side + page) Valid ≡ true
  pub active : is_marked device (first_page device.size side + page_of_slot device.size slot) Active
      ≡ true

-- a map in which these addresses have what the other one says of them
abbrev pub replaced_map : Map → (ℕ → Bool) → Map → Map
replaced_map start named map address = if named address then start address else map address

-- a map up to an address
abbrev pub map_to : Map → ℕ → Map
map_to map last address = if nat_le address last then map address else None

-- The map moved to the other set with changes: each address with a value takes a slot there, the
-- set's generation is one more, and as many pages of the set that was live are not blank as before.
pub record HasMoved (old new : Device) (side : Side) (generation : ℕ) (changes : List Change)
    : Type 0 where
  pub live : IsLive new (other side) (generation + 1)
  pub same_size : new.size ≡ old.size
  pub map_is : (address : ℕ)
      → map_in (other side) new address ≡ changed_by changes (map_in side old) address
  pub fill_is : fill_of (slots_of (set_of (other side) new))
      ≡ live_in (changed_by changes (map_in side old))
  pub pending_is : pending_of (set_of side new) ≡ pending_of (set_of side old)

-- one word of the device is this one, and each other is as before
pub record PutsWord (page at : ℕ) (word : Word) (old new : Device) : Type 0 where
  pub there : word_at new page at ≡ word
  pub elsewhere : (other_page place : ℕ) → (other_page ≢ page) ⊎ (place ≢ at)
      → word_at new other_page place ≡ word_at old other_page place

-- a mark is set, and each other word is as before
abbrev pub SetsMark : ℕ → Mark → Device → Device → Type 0
SetsMark page mark old new =
    PutsWord page (place_of_mark mark) (marked_word mark (word_at old page (place_of_mark mark)))
    old new

-- the page is that of the last of so many slots of this set, its first one where there is none, and
-- the place in it is the one behind that slot
pub record IsBehind (size : Size) (side : Side) (place : Place) : Type 0 where
  pub page : place.page ≡ first_page size side + page_of_slot size (place.slot - 1)
  pub at : place.at + page_of_slot size (place.slot - 1) * (size.words - header_words)
      ≡ header_words + place.slot

-- the page and the place in it are those of the slot with this number, in this set
pub record Stands (size : Size) (side : Side) (place : Place) : Type 0 where
  pub page : place.page ≡ first_page size side + page_of_slot size place.slot
  pub at : place.at ≡ place_of_slot size place.slot

-- a set that a transfer fills: receive words on the pages up to this one, the words in its slots,
-- and all else erased
abbrev pub opened_set : Size → ℕ → ℕ → List Word → Picture
opened_set size generation last words page at =
    if nat_lt 3 at then slice_index_or words (slots_before size page at) Erased
    else mark_where ((at == 0) && nat_le page last) (Receive generation)

-- the set holds these words, and is open up to the page of the last of them
abbrev pub Holds : Device → Side → ℕ → List Word → Type 0
Holds device side generation words =
    IsDrawn side device
    (opened_set device.size generation (page_of_slot device.size (length words - 1)) words)

-- the other set, which held so many words, holds some more
pub record AddsWords (old new : Device) (side : Side) (generation count : ℕ) (more : List Word)
    : Type 0 where
  pub new_pages : (words : List Word) → length words ≡ count
      → Holds old (other side) generation words → Holds new (other side) generation (words ++ more)

-- the set holds these words, and the mark that commits it
abbrev pub IsCommittedWith : Device → Side → ℕ → List Word → Type 0
IsCommittedWith device side generation words =
    IsDrawn side device (λ page at.
    if (page == 0) && (at == 1) then mark_where true Active
    else opened_set device.size generation (page_of_slot device.size (length words - 1)) words page
    at)
