-- What a change of a store's map leaves, and when none is made.
use Rattle.std.specs.Prelude.{◌≡◌, ◌<◌, ◌≤◌, ◌⊎◌, ℕ, Some, None, List, [], ◌∷◌}
use Rattle.ee_flash.specs.Device.{Device, IsOn}
use Rattle.ee_flash.specs.Power.{GoesOn, IsCut}
use Rattle.ee_pages.specs.Meaning.{Change, Map, Put, Forget, changed_by, live_in}
use Rattle.ee_pages.specs.Sets.{live_of}
use Rattle.ee_core.specs.Picture.{OfLive}
use Rattle.ee_core.specs.Shown.{ShowsAppended, ShowsCutAppend, ShowsCutMove, ShowsMoved}
use Rattle.ee_core.specs.StepLists.{steps_of_append, steps_of_making, steps_of_transfer}
use Rattle.ee_flash.specs.Taking.{Completes, IsCutAmong}
use Rattle.ee_core.specs.State.{State, Wears, appended_state, capacity, moved_state, pending_pages, torn_state, state_of, next_live, used_pages_of, with_pending}

-- the greatest generation: no transfer follows it
abbrev pub greatest_generation : ℕ
greatest_generation = 4294967294

-- in so many slots: the address has no value, and as many addresses have one as there are slots
pub record IsFull (slots : ℕ) (state : State) (address : ℕ) : Type 0 where
  pub new_address : state.map address ≡ None
  pub all_live : live_in state.map ≡ slots

-- a transfer would be needed, and no generation is left for it
pub record IsSpent (slots : ℕ) (state : State) : Type 0 where
  pub all_used : state.fill ≡ slots
  pub last_generation : state.generation ≡ greatest_generation

-- a put finds no room for its address, or a forgetting finds no value
abbrev pub HasNoPlace : ℕ → State → Change → Type 0
HasNoPlace slots state (Put address value) = IsFull slots state address
HasNoPlace slots state (Forget address) = state.map address ≡ None

-- so it is of one change; and after several, more addresses would have a value than there are slots
abbrev pub HaveNoPlace : ℕ → State → List Change → Type 0
HaveNoPlace slots state [] = ⊥
HaveNoPlace slots state (change ∷ []) = HasNoPlace slots state change
HaveNoPlace slots state changes = slots < live_in (changed_by changes state.map)

-- one change needs a transfer where every slot is used, and several always
abbrev pub NeedsTransfer : ℕ → State → List Change → Type 0
NeedsTransfer slots state [] = ⊥
NeedsTransfer slots state (change ∷ []) = state.fill ≡ slots
NeedsTransfer slots state changes = Unit {0}

-- they need one, and no generation is left for it
abbrev pub HaveNoGeneration : ℕ → State → List Change → Type 0
HaveNoGeneration slots state [] = ⊥
HaveNoGeneration slots state (change ∷ []) = IsSpent slots state
HaveNoGeneration slots state changes = state.generation ≡ greatest_generation

-- no refusal applies to the changes
pub record IsAccepted (slots : ℕ) (state : State) (changes : List Change) : Type 0 where
  pub has_place : ¬ HaveNoPlace slots state changes
  pub not_spent : ¬ HaveNoGeneration slots state changes

-- the device is on, and no refusal applies
pub record Proceeds (device : Device) (changes : List Change) : Type 0 where
  pub on : IsOn device
  pub accepted : IsAccepted (capacity device) (state_of device) changes

-- the map has the change: its address has the value, or has none
abbrev pub HasChange : Change → Map → Type 0
HasChange (Put address value) map = map address ≡ Some value
HasChange (Forget address) map = map address ≡ None

-- how many pages of the set that a transfer leaves wait to be erased then: for one change all,
-- since each slot was used; for several those that are not blank
abbrev pub pages_left : List Change → Device → ℕ
pages_left (change ∷ []) device = device.size.pages
pages_left changes device = used_pages_of device

-- a free slot has the change; the same set is live, the same pages wait, and none was erased
pub record Appends (old : Device) (change : Change) (new : Device) : Type 0 where
  pub proceeds : Proceeds old (change ∷ [])
  pub goes_on : GoesOn old new
  pub free : (state_of old).fill < capacity old
  pub state_is : state_of new ≡ appended_state change (state_of old)
  pub live_is : live_of new ≡ live_of old
  pub same_pending : pending_pages new ≡ pending_pages old
  pub image : OfLive old (λ side generation. ShowsAppended old change new side)
  pub steps : Completes (steps_of_append change old) old new
  pub no_wear : new.wear ≡ old.wear

-- a transfer was needed, and the map was moved to the other set with the changes; the pages of that
-- set which waited to be erased were erased, each once, and no other
pub record Moves (old : Device) (changes : List Change) (new : Device) : Type 0 where
  pub proceeds : Proceeds old changes
  pub goes_on : GoesOn old new
  pub needed : NeedsTransfer (capacity old) (state_of old) changes
  pub few_left : pages_left changes old ≤ old.size.pages
  pub state_is : state_of new ≡ moved_state (pages_left changes old) changes (state_of old)
  pub live_is : live_of new ≡ next_live (live_of old)
  pub image : OfLive old (λ side generation. ShowsMoved old changes new side generation)
  pub steps : Completes (steps_of_transfer changes old) old new
  pub wear : Wears (pending_pages old) old new

-- With a slot free, a cut leaves the state as it was, or a slot more torn, or the change appended.
abbrev pub IsCutAppend : State → Change → State → Type 0
IsCutAppend old change new =
    (new ≡ old) ⊎ (new ≡ torn_state old) ⊎ (new ≡ appended_state change old)

-- In a transfer, it leaves the state as it was but for the pages that wait to be erased, of which a
-- set has so many, or the map moved with the changes, and so many waiting.
abbrev pub IsCutMove : ℕ → ℕ → State → List Change → State → Type 0
IsCutMove pages left old changes new =
    ((pending : ℕ) × (pending ≤ pages) × (new ≡ with_pending pending old))
    ⊎ (new ≡ moved_state left changes old)

-- Power was cut in a change. With a slot free no page was erased; with none free, the pages that
-- waited up to one, or all. No more slots were used than there are, so it is one or the other.
pub record IsCutChange (old : Device) (change : Change) (new : Device) : Type 0 where
  pub proceeds : Proceeds old (change ∷ [])
  pub cut : IsCut old new
  pub steps : IsCutAmong (steps_of_making (change ∷ []) old) old new
  pub within : (state_of old).fill ≤ capacity old
  pub free : (state_of old).fill < capacity old → IsCutAppend (state_of old) change (state_of new)
  pub all_used : (state_of old).fill ≡ capacity old
      → IsCutMove old.size.pages old.size.pages (state_of old) (change ∷ []) (state_of new)
  pub no_wear : (state_of old).fill < capacity old → new.wear ≡ old.wear
  pub free_words : (state_of old).fill < capacity old
      → OfLive old (λ side generation. ShowsCutAppend old change new side)
  pub used_words : (state_of old).fill ≡ capacity old
      → OfLive old (λ side generation. ShowsCutMove old (change ∷ []) new side generation)

-- Power was cut in a transfer with several changes: the map is as it was, or has them all.
pub record IsCutTransfer (old : Device) (changes : List Change) (new : Device) : Type 0 where
  pub proceeds : Proceeds old changes
  pub cut : IsCut old new
  pub steps : IsCutAmong (steps_of_transfer changes old) old new
  pub state_is : IsCutMove old.size.pages (pages_left changes old) (state_of old) changes
      (state_of new)
  pub words : OfLive old (λ side generation. ShowsCutMove old changes new side generation)

-- power was cut in making these changes
abbrev pub IsCutMaking : Device → List Change → Device → Type 0
IsCutMaking old [] new = ⊥
IsCutMaking old (change ∷ []) new = IsCutChange old change new
IsCutMaking old changes new = IsCutTransfer old changes new
