-- What is kept of the changes that events ask for: those that were answered as done, and of those
-- in which power was cut the ones that were found.
use Rattle.std.specs.Prelude.{◌≡◌, ◌⊎◌, ◌==◌, ◌++◌, ℕ, Bool, true, false, Option, Some, List, [], ◌∷◌}
use Rattle.std.specs.List.{All, Contains, flat_map}
use Rattle.ee_flash.specs.Device.{Device}
use Rattle.ee_pages.specs.Legal.{IsLegal}
use Rattle.ee_pages.specs.Meaning as meaning
use Rattle.ee_pages.specs.Meaning.{Change, Map, changed_by}
use Rattle.ee_pages.specs.Pending.{address_of}
use Rattle.ee_core.specs.Points.{Point, closed_point}
use Rattle.ee_core.specs.Changes.{HasChange}
use Rattle.ee_core.specs.Puts.{each_forgotten, is_put, puts_of}
use Rattle.ee_core.specs.Starts.{IsStartable}
use Rattle.ee_core.specs.State.{formatted_state, state_of}
use Rattle.ee_core.specs.declared.opening.OpenFault.TheVariants.{Scan}
use Rattle.ee_store.specs.PowerCuts.Deciding.{ByFuse}
use Rattle.ee_store.specs.PowerCuts.Events.{AreTold, AreTurns, Turn, WasDone}
use Rattle.ee_store.specs.declared.power_cuts.event.Answer.{Answer}
use Rattle.ee_store.specs.declared.power_cuts.event.Answer.TheVariants.{Cleared, Done, NotCleared, NotForgotten, NotOpened, NotWritten, Refused, Value}
use Rattle.ee_store.specs.declared.power_cuts.event.Event.{Event}
use Rattle.ee_store.specs.declared.power_cuts.event.Event.TheVariants.{Clear, Forget, Get, Put, PutAll}

-- the changes that an event kept: its own, if it was done, or found after a cut; those of a list
-- all, or none; a clear forgets each address
abbrev pub kept_by : Event → Answer → Option Bool → List Change
kept_by (Put address value) (Done written) found = meaning.Put address value ∷ []
kept_by (Put address value) (Refused fault) (Some true) = meaning.Put address value ∷ []
kept_by (PutAll puts) (Done written) found = puts_of puts.now
kept_by (PutAll puts) (NotWritten fault) (Some true) = puts_of puts.now
kept_by (Forget address) (Done written) found = meaning.Forget address ∷ []
kept_by (Forget address) (NotForgotten fault) (Some true) = meaning.Forget address ∷ []
kept_by Clear (Cleared true) found = each_forgotten
kept_by Clear (NotCleared fault) (Some true) = each_forgotten
kept_by event answer found = []

-- the changes that were kept, in their order
abbrev pub kept_changes : List Turn → List Change
kept_changes turns = flat_map (λ turn. kept_by turn.event turn.answer turn.found) turns

-- a value that was read is the one in this map
abbrev pub IsValueIn : Map → Event → Answer → Type 0
IsValueIn map (Get address) (Value value) = value ≡ map address
IsValueIn map event answer = Unit {0}

-- each value that was read is that of the map which the changes kept before it made of this one
abbrev pub AreValuesFrom : Map → List Turn → Type 0
AreValuesFrom map [] = Unit {0}
AreValuesFrom map (turn ∷ turns) =
    IsValueIn map turn.event turn.answer
    × AreValuesFrom (changed_by (kept_by turn.event turn.answer turn.found) map) turns

-- the image was found not legal
abbrev pub is_scan_fault : Answer → Bool
is_scan_fault (NotOpened (Scan fault)) = true
is_scan_fault answer = false

-- What was kept, from a legal image: no opening met a scan fault, each value read is that
-- of its point, and the image is legal and means the map of the start, changed by the
-- changes that were kept.
pub record WasKept (turns : List Turn) (old new : Device) : Type 0 where
  pub no_scan_fault : All (λ turn. is_scan_fault turn.answer ≡ false) turns
  pub values : AreValuesFrom (state_of old).map turns
  pub legal : IsLegal new
  pub map_is : (state_of new).map ≡ changed_by (kept_changes turns) (state_of old).map

-- What was kept, from a device on which no value was ever stored: each value read is that of its
-- point, from a map with none; and the image is legal and means the changes that were kept, or
-- there are none yet, and the device can still be started.
pub record WasKeptFromNone (turns : List Turn) (new : Device) : Type 0 where
  pub values : AreValuesFrom formatted_state.map turns
  pub stands : (IsStartable new × (kept_changes turns ≡ []))
      ⊎ (IsLegal new
      × ((state_of new).map ≡ changed_by (kept_changes turns) formatted_state.map))

-- These events, on a device on which no store is open, got these answers and kept entries,
-- and left this device.
pub record Drives (old : Device) (events : List Event) (log : List Answer) (kept : List Bool)
    (new : Device) : Type 0 where
  pub turns : List Turn
  pub told : AreTold turns events log kept
  pub done : WasDone turns old new
  pub changes_kept : IsLegal old → WasKept turns old new
  pub from_none : IsStartable old → WasKeptFromNone turns new
  pub by_fuse : ByFuse old events log kept new

-- Whatever is cut, and however often, no change that was answered is lost, and each that
-- a cut left is known.
abbrev pub NoAnsweredChangeIsLost : Type 0
NoAnsweredChangeIsLost =
    (turns : List Turn) (old new : Point) → AreTurns turns old new → IsLegal old.device
    → WasKept turns old.device new.device

-- So it is with a device on which no value was ever stored, however often power is cut in starting
-- it.
abbrev pub NoneIsLostFromNone : Type 0
NoneIsLostFromNone =
    (turns : List Turn) (old : Device) (new : Point) → AreTurns turns (closed_point old) new
    → IsStartable old → WasKeptFromNone turns new.device

-- the event asks for a change of the address; a clear does of each
abbrev pub event_asks_change_of : ℕ → Event → Bool
event_asks_change_of address (Put named value) = named == address
event_asks_change_of address (PutAll puts) = is_put puts.now address
event_asks_change_of address (Forget named) = named == address
event_asks_change_of address Clear = true
event_asks_change_of address event = false

-- A change that was kept stays, whatever is cut later, however often, in calls and in openings: as
-- long as no further change of its address is asked for, the image has it.
abbrev pub AKeptChangeStays : Type 0
AKeptChangeStays =
    (turns later : List Turn) (turn : Turn) (change : Change) (old new : Point)
    → AreTurns (turns ++ turn ∷ later) old new
    → IsLegal old.device → Contains (kept_by turn.event turn.answer turn.found) change
    → All (λ one. event_asks_change_of (address_of change) one.event ≡ false) later
    → HasChange change (state_of new.device).map
