-- How a transfer fills the other set: what a part of it finds there, and what it leaves.
use Rattle.std.specs.Prelude.{◌≡◌, ◌⊎◌, ℕ, ◌+◌, ◌-◌, true, None, Result, Ok, Err, List, [], ◌∷◌, ◌++◌, length, slice_set}
use Rattle.std.specs.List.{All}
use Rattle.ee_codec.specs.Words.{IsGeneration}
use Rattle.ee_flash.specs.Device.{Device, IsOn}
use Rattle.ee_flash.specs.declared.word.Word.{Word}
use Rattle.ee_flash.specs.declared.word.Word.TheVariants.{Held}
use Rattle.ee_pages.specs.Filling.{IsCommitted, IsFilling}
use Rattle.ee_pages.specs.Laws.{KeepsSide}
use Rattle.ee_pages.specs.Layout.{IsLayout}
use Rattle.ee_pages.specs.Meaning.{Change, Map, SpellsChange, changed_by, live_in, map_after}
use Rattle.ee_pages.specs.Page.{is_blank}
use Rattle.ee_pages.specs.Sets.{first_page, other, page_of_slot, place_of_slot, set_of, slots_of}
use Rattle.ee_pages.specs.declared.find.Layout.{Layout}
use Rattle.ee_pages.specs.declared.side.Side.{Side}
use Rattle.ee_pages.specs.declared.state.Mark.TheVariants.{Active, Receive}
use Rattle.ee_core.specs.CallSteps.{AddsWords, HasMoved, Holds, IsBehind, IsCommittedWith, IsSameSet, SetsMark, Stands, map_change, map_in, number_written, opened_set}
use Rattle.ee_core.specs.Cuts.{AddsPartly, ErasesPartly, FillsPartly, IsDrawnPartly, MovesMapPartly, MovesPartly, PutsPartly, SetsPartly}
use Rattle.ee_core.specs.Finished.{IsMarked}
use Rattle.ee_core.specs.Picture.{IsDrawn, blank_picture, filled_set, is_used, picture_of, retired_pages}
use Rattle.ee_core.specs.State.{Wears, not_blank_in}
use Rattle.ee_core.specs.StepLists.{steps_to_fill}
use Rattle.ee_flash.specs.Taking.{Completes, StopsAmong}
use Rattle.ee_core.specs.declared.change.Change as declared
use Rattle.ee_core.specs.declared.copying.Place.{Place}

-- the other set takes elements of the next generation, and has none yet
pub record IsNewlyOpened (device : Device) (layout : Layout) : Type 0 where
  pub generation : IsGeneration (layout.generation + 1)
  pub filling : IsFilling device (other layout.side) (layout.generation + 1) 0
  pub nothing : (address : ℕ) → map_in (other layout.side) device address ≡ None

-- or has so many, up to this place
pub record IsOpenAt (device : Device) (layout : Layout) (place : Place) : Type 0 where
  pub generation : IsGeneration (layout.generation + 1)
  pub filling : IsFilling device (other layout.side) (layout.generation + 1) place.slot
  pub behind : IsBehind device.size (other layout.side) place

-- or so many that the next one goes to this place
pub record IsOpenFor (device : Device) (layout : Layout) (place : Place) : Type 0 where
  pub generation : IsGeneration (layout.generation + 1)
  pub filling : IsFilling device (other layout.side) (layout.generation + 1) place.slot
  pub stands : Stands device.size (other layout.side) place

-- the steps that fill it were taken for some more words, behind those that it held
pub record AddsSteps (old new : Device) (side : Side) (generation count : ℕ) (more : List Word)
    : Type 0 where
  pub taken : (held : List Word) → length held ≡ count → Holds old (other side) generation held
      → Completes (steps_to_fill old.size (other side) generation count more) old new

-- or power was cut in one of them
pub record AddsStepsPartly (old new : Device) (side : Side) (generation count : ℕ)
    (more : List Word) : Type 0 where
  pub stopped : (held : List Word) → length held ≡ count → Holds old (other side) generation held
      → StopsAmong (steps_to_fill old.size (other side) generation count more) old new

-- These words were added to the other set, of which so many slots were written; now this many are,
-- and the set means this map. The live set and all wear are as before.
pub record Filled (old new : Device) (layout : Layout) (count : ℕ) (words : List Word) (map : Map)
    (written : ℕ) : Type 0 where
  pub keeps : KeepsSide old new layout.side
  pub filling : IsFilling new (other layout.side) (layout.generation + 1) written
  pub map_is : (address : ℕ) → map_in (other layout.side) new address ≡ map address
  pub adds : AddsWords old new layout.side (layout.generation + 1) count words
  pub as_many : written ≡ count + length words
  pub wear : new.wear ≡ old.wear
  pub steps : AddsSteps old new layout.side (layout.generation + 1) count words

-- or they were added in part, when power was cut
pub record FilledPartly (old new : Device) (layout : Layout) (count : ℕ) (words : List Word)
    : Type 0 where
  pub keeps : KeepsSide old new layout.side
  pub begun : AddsPartly old new layout.side (layout.generation + 1) count words
  pub wear : new.wear ≡ old.wear
  pub steps : AddsStepsPartly old new layout.side (layout.generation + 1) count words

-- a call ends so; what it gives says how many slots are written
abbrev pub Fills : {T E : Type 0} → Result T E → (T → ℕ) → Device → Device → Layout → ℕ → List Word
    → Map → Type 0
Fills (Ok value) written old new layout count words map =
    Filled old new layout count words map (written value)
Fills (Err error) written old new layout count words map = FilledPartly old new layout count words

-- in the other set, of which so many slots are written, the page of the next one has its receive
-- word, and all else is as before
pub record OpensForSlot (old new : Device) (layout : Layout) (count : ℕ) : Type 0 where
  pub keeps : KeepsSide old new layout.side
  pub filling : IsFilling new (other layout.side) (layout.generation + 1) count
  pub same_slots : slots_of (set_of (other layout.side) new)
      ≡ slots_of (set_of (other layout.side) old)
  pub opens : (words : List Word) → length words ≡ count
      → IsDrawn (other layout.side) old
      (opened_set old.size (layout.generation + 1) (page_of_slot old.size (count - 1)) words)
      → IsDrawn (other layout.side) new
      (opened_set old.size (layout.generation + 1) (page_of_slot old.size count) words)
  pub wear : new.wear ≡ old.wear

-- or power was cut in that word
pub record OpensForSlotPartly (old new : Device) (layout : Layout) (count : ℕ) : Type 0 where
  pub keeps : KeepsSide old new layout.side
  pub begun : SetsPartly (first_page old.size (other layout.side) + page_of_slot old.size count)
      (Receive (layout.generation + 1)) old new
  pub wear : new.wear ≡ old.wear

-- the mark ends so
abbrev pub ReceivesSlot : {T E : Type 0} → Result T E → Device → Device → Layout → ℕ → Type 0
ReceivesSlot (Ok done) old new layout count = OpensForSlot old new layout count
ReceivesSlot (Err cut) old new layout count = OpensForSlotPartly old new layout count

-- then the change stands in that slot
pub record PutsInSlot (old new : Device) (layout : Layout) (count : ℕ) (change : declared.Change)
    : Type 0 where
  pub keeps : KeepsSide old new layout.side
  pub filling : IsFilling new (other layout.side) (layout.generation + 1) (count + 1)
  pub slot : (number : ℕ) × SpellsChange number (map_change change)
      × (slots_of (set_of (other layout.side) new)
      ≡ slice_set (slots_of (set_of (other layout.side) old)) count (Held number))
  pub map_is : (address : ℕ)
      → map_in (other layout.side) new address
      ≡ map_after (map_change change) (map_in (other layout.side) old) address
  pub puts : (words : List Word) → length words ≡ count
      → IsDrawn (other layout.side) old
      (opened_set old.size (layout.generation + 1) (page_of_slot old.size count) words)
      → IsDrawn (other layout.side) new
      (opened_set old.size (layout.generation + 1) (page_of_slot old.size count)
      (words ++ (Held (number_written change) ∷ [])))
  pub wear : new.wear ≡ old.wear

-- or power was cut in it
pub record PutsInSlotPartly (old new : Device) (layout : Layout) (count : ℕ)
    (change : declared.Change) : Type 0 where
  pub keeps : KeepsSide old new layout.side
  pub begun : PutsPartly (first_page old.size (other layout.side) + page_of_slot old.size count)
      (place_of_slot old.size count) (Held (number_written change)) old new
  pub wear : new.wear ≡ old.wear

-- the step that programs it ends so
abbrev pub ProgramsSlot : {T E : Type 0} → Result T E → Device → Device → Layout → ℕ
    → declared.Change → Type 0
ProgramsSlot (Ok done) old new layout count change = PutsInSlot old new layout count change
ProgramsSlot (Err cut) old new layout count change = PutsInSlotPartly old new layout count change

-- ---- the steps of a transfer

-- each page of the other set is blank: those that weren't were erased, each once, and no other; the
-- live set is as before
pub record OtherCleared (old new : Device) (side : Side) : Type 0 where
  pub keeps : KeepsSide old new side
  pub blank : All (λ page. is_blank page ≡ true) (set_of (other side) new)
  pub wear : Wears (not_blank_in (other side) old) old new

-- or power was cut in one of these erases
pub record OtherClearedPartly (old new : Device) (side : Side) : Type 0 where
  pub keeps : KeepsSide old new side
  pub partly : IsOn old
      → ErasesPartly (first_page old.size (other side)) (set_of (other side) old) old new

-- the erases end so
abbrev pub ClearsOther : {T E : Type 0} → Result T E → Device → Device → Side → Type 0
ClearsOther (Ok done) old new side = OtherCleared old new side
ClearsOther (Err cut) old new side = OtherClearedPartly old new side

-- the other set takes elements of the next generation, and holds none; the live set and
-- all wear are as before
pub record OtherOpened (old new : Device) (layout : Layout) : Type 0 where
  pub keeps : KeepsSide old new layout.side
  pub opened : IsNewlyOpened new layout
  pub holds : Holds new (other layout.side) (layout.generation + 1) []
  pub wear : new.wear ≡ old.wear

-- or power was cut in it: whatever words the set is to hold, it is on the way to them
pub record OtherOpenedPartly (old new : Device) (layout : Layout) : Type 0 where
  pub keeps : KeepsSide old new layout.side
  pub begun : (words : List Word)
      → FillsPartly new (other layout.side) (layout.generation + 1) words
  pub wear : new.wear ≡ old.wear

-- the opening ends so
abbrev pub OpensOther : {T E : Type 0} → Result T E → Device → Device → Layout → Type 0
OpensOther (Ok done) old new layout = OtherOpened old new layout
OpensOther (Err cut) old new layout = OtherOpenedPartly old new layout

-- one mark made the other set, which was filled, the live one; the set that was live and
-- all wear are as before
pub record OtherCommitted (old new : Device) (layout : Layout) : Type 0 where
  pub committed : IsCommitted old new (other layout.side) (layout.generation + 1)
  pub same_set : IsSameSet layout.side old new
  pub sets : SetsMark (first_page old.size (other layout.side)) Active old new
  pub wear : new.wear ≡ old.wear

-- or power was cut in it
pub record OtherCommittedPartly (old new : Device) (layout : Layout) : Type 0 where
  pub cut : KeepsSide old new layout.side
      ⊎ IsCommitted old new (other layout.side) (layout.generation + 1)
  pub same_set : IsSameSet layout.side old new
  pub begun : (words : List Word) → Holds old (other layout.side) (layout.generation + 1) words
      → IsDrawnPartly (other layout.side) new blank_picture
      (filled_set old.size (layout.generation + 1) words)
  pub same_size : new.size ≡ old.size
  pub wear : new.wear ≡ old.wear

-- the commit ends so
abbrev pub CommitsOther : {T E : Type 0} → Result T E → Device → Device → Layout → Type 0
CommitsOther (Ok done) old new layout = OtherCommitted old new layout
CommitsOther (Err cut) old new layout = OtherCommittedPartly old new layout

-- ---- the whole map

-- The map moved with the changes to the other set, which is committed with these words, one in each
-- of so many slots. Each page of that set that was not blank was erased first. The words of the set
-- that was live are as before.
pub record MapMoved (old new : Device) (layout : Layout) (changes : List Change) (words : List Word)
    (count : ℕ) : Type 0 where
  pub moved : HasMoved old new layout.side layout.generation changes
  pub as_many : count ≡ length words
  pub each_once : count ≡ live_in (changed_by changes (map_in layout.side old))
  pub new_pages : IsCommittedWith new (other layout.side) (layout.generation + 1) words
  pub live_pages : IsDrawn layout.side new (picture_of layout.side old)
  pub wear : Wears (not_blank_in (other layout.side) old) old new

-- Or power was cut on the way: in those erases, or behind them, and then the words are as is said;
-- the live set is as before, or the map has moved.
pub record MapMovedPartly (old new : Device) (layout : Layout) (changes : List Change)
    (words : List Word) (Leaves : Device → Device → Side → ℕ → List Word → Type 0) : Type 0 where
  pub left : IsOn old
      → ErasesPartly (first_page old.size (other layout.side)) (set_of (other layout.side) old) old
      new
      ⊎ Leaves old new layout.side layout.generation words
  pub cut : KeepsSide old new layout.side ⊎ HasMoved old new layout.side layout.generation changes

-- a call ends so; what it gives says how many slots are taken
abbrev pub MovesMap : {T E : Type 0} → Result T E → (T → ℕ) → Device → Device → Layout → List Change
    → List Word → Type 0
MovesMap (Ok value) taken old new layout changes words =
    MapMoved old new layout changes words (taken value)
MovesMap (Err error) taken old new layout changes words =
    MapMovedPartly old new layout changes words MovesMapPartly

-- The map moved so, and each mark of its new set, and of the pages that wait then, is set. This
-- is the layout then.
pub record SetMoved (old new : Device) (layout after : Layout) (changes : List Change)
    (words : List Word) : Type 0 where
  pub moved : HasMoved old new layout.side layout.generation changes
  pub as_many : after.fill ≡ length words
  pub layout_is : IsLayout new after
  pub other_set : after.side ≡ other layout.side
  pub marked : IsMarked new (other layout.side)
  pub new_pages : IsDrawn (other layout.side) new
      (filled_set old.size (layout.generation + 1) words)
  pub old_pages : IsDrawn layout.side new
      (retired_pages (is_used layout.side old) (picture_of layout.side old))
  pub wear : Wears (not_blank_in (other layout.side) old) old new

-- a transfer ends so; what it gives says the layout
abbrev pub MovesSet : {T E : Type 0} → Result T E → (T → Layout) → Device → Device → Layout
    → List Change → List Word → Type 0
MovesSet (Ok value) after old new layout changes words =
    SetMoved old new layout (after value) changes words
MovesSet (Err error) after old new layout changes words =
    MapMovedPartly old new layout changes words MovesPartly
