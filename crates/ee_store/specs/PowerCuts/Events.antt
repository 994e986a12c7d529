-- What happens when events drive a store through power cuts and openings: a run of turns,
-- one for each event.
use Rattle.std.specs.Prelude.{◌≡◌, ◌↔◌, ℕ, ◌+◌, ◌&&◌, Bool, true, false, not, IsTrue, Option, Some, None, Ok, Err, List, [], ◌∷◌, map, min}
use Rattle.std.specs.List.{count_by, filter_map}
use Rattle.ee_flash.specs.Device.{Device, IsOn, all_ones}
use Rattle.ee_pages.specs.Meaning.{Map}
use Rattle.ee_core.specs.Finished.{IsStore}
use Rattle.ee_core.specs.Openings.{OpenFails, Opens}
use Rattle.ee_core.specs.Points.{Point, closed_point, with_power_on}
use Rattle.ee_core.specs.Puts.{HasAll}
use Rattle.ee_core.specs.Runs.{Call, Wrote, WroteAll, Forgot, DidRead, Cleared as DidClear, Cleaned as DidClean, Follows}
use Rattle.ee_core.specs.Starts.{StartFails, Starts}
use Rattle.ee_core.specs.State.{state_of}
use Rattle.ee_core.specs.declared.variables.ClearFault.TheVariants as clear
use Rattle.ee_core.specs.declared.opening.OpenFault.TheVariants as opening
use Rattle.ee_core.specs.declared.variables.ForgetFault.TheVariants as forget
use Rattle.ee_core.specs.declared.variables.WriteAllFault.TheVariants as all
use Rattle.ee_core.specs.declared.variables.WriteFault.TheVariants as write
use Rattle.ee_store.specs.declared.power_cuts.event.Answer.{Answer}
use Rattle.ee_store.specs.declared.power_cuts.event.Answer.TheVariants.{Cleaned, Cleared, Done, NotCleared, NotForgotten, NotOpened, NotWritten, Off, Opened, Refused, Value}
use Rattle.ee_store.specs.declared.power_cuts.event.Event.{Event}
use Rattle.ee_store.specs.declared.power_cuts.event.Event.TheVariants.{Clean, Clear, Forget, Get, Put, PutAll, Reopen, Start}

-- An event with its answer, and whether the image right after it has the change, if
-- power was cut in one.
pub record Turn : Type 0 where
  pub event : Event
  pub answer : Answer
  pub found : Option Bool

-- the call of the store that the event makes, with its answer; the store takes no memory, so none
-- is refused for want of it
abbrev pub call_of_event : Event → Answer → Option Call
call_of_event (Put address value) (Done written) = Some (Wrote address value (Ok written))
call_of_event (Put address value) (Refused write.Memory) = None
call_of_event (Put address value) (Refused fault) = Some (Wrote address value (Err fault))
call_of_event (PutAll puts) (Done written) = Some (WroteAll puts.now (Ok written))
call_of_event (PutAll puts) (NotWritten all.Memory) = None
call_of_event (PutAll puts) (NotWritten fault) = Some (WroteAll puts.now (Err fault))
call_of_event (Forget address) (Done written) = Some (Forgot address (Ok written))
call_of_event (Forget address) (NotForgotten fault) = Some (Forgot address (Err fault))
call_of_event (Get address) (Value value) = Some (DidRead address (Ok value))
call_of_event Clear (Cleared some) = Some (DidClear (Ok some))
call_of_event Clear (NotCleared fault) = Some (DidClear (Err fault))
call_of_event Clean (Cleaned erased) = Some (DidClean (Ok erased))
call_of_event Clean (Refused fault) = Some (DidClean (Err fault))
call_of_event event answer = None

-- on a device that is on, the call leaves the device of a store
abbrev pub IsCalled : Option Call → Device → Device → Type 0
IsCalled None old new = ⊥
IsCalled (Some call) old new = IsOn old × Follows call old new × IsStore new

-- power is turned on, and the store of the image opened
abbrev pub Reopens : Answer → Device → Device → Type 0
Reopens Opened old new = Opens (with_power_on old) new
Reopens (NotOpened fault) old new = OpenFails (with_power_on old) fault new
Reopens answer old new = ⊥

-- power is turned on, and the store of the image opened, or the first one made
abbrev pub StartsUp : Answer → Device → Device → Type 0
StartsUp Opened old new = Starts (with_power_on old) new
StartsUp (NotOpened fault) old new = StartFails (with_power_on old) fault new
StartsUp answer old new = ⊥

-- without an open store on a device that is on, nothing is done
abbrev pub Idles : Answer → Device → Device → Type 0
Idles Off old new = new ≡ old
Idles answer old new = ⊥

-- What the event is answered, and what it leaves, by whether a store is open on a device that is
-- on: a reopening opens, and so does a start; each other event makes its call, or is answered that
-- it is off.
abbrev pub Happens : Bool → Event → Answer → Device → Device → Type 0
Happens serving Reopen answer old new = Reopens answer old new
Happens serving Start answer old new = StartsUp answer old new
Happens true event answer old new = IsCalled (call_of_event event answer) old new
Happens false event answer old new = Idles answer old new

-- power was cut in it
abbrev pub tells_of_a_cut : Answer → Bool
tells_of_a_cut (Refused write.Cut) = true
tells_of_a_cut (NotWritten all.Cut) = true
tells_of_a_cut (NotForgotten forget.Cut) = true
tells_of_a_cut (NotCleared clear.Cut) = true
tells_of_a_cut (NotOpened opening.Cut) = true
tells_of_a_cut answer = false

-- A store is open on a device that is on from an opening or a start to the next answer with a cut, or to an
-- opening that fails.
abbrev pub serves_after : Bool → Answer → Bool
serves_after serving Opened = true
serves_after serving (NotOpened fault) = false
serves_after serving answer = serving && not (tells_of_a_cut answer)

-- no address has a value in this map
abbrev pub IsEmptied : Map → Type 0
IsEmptied map = (address : ℕ) → map address ≡ None

-- What is looked for: after a cut in a put whether the address has that value, after one in a list
-- whether it has all its values, after one in a forgetting whether the address has none, after one
-- in a clear whether no address has one, and after nothing else.
abbrev pub IsLookedFor : Event → Answer → Option Bool → Device → Type 0
IsLookedFor (Put address value) (Refused write.Cut) (Some held) new =
    IsTrue held ↔ ((state_of new).map address ≡ Some value)
IsLookedFor (Put address value) (Refused write.Cut) None new = ⊥
IsLookedFor (PutAll puts) (NotWritten all.Cut) (Some held) new =
    IsTrue held ↔ HasAll puts.now (state_of new).map
IsLookedFor (PutAll puts) (NotWritten all.Cut) None new = ⊥
IsLookedFor (Forget address) (NotForgotten forget.Cut) (Some held) new =
    IsTrue held ↔ ((state_of new).map address ≡ None)
IsLookedFor (Forget address) (NotForgotten forget.Cut) None new = ⊥
IsLookedFor Clear (NotCleared clear.Cut) (Some held) new =
    IsTrue held ↔ IsEmptied (state_of new).map
IsLookedFor Clear (NotCleared clear.Cut) None new = ⊥
IsLookedFor event answer found new = found ≡ None

-- one turn, from a point to the next
pub record IsTurn (turn : Turn) (old new : Point) : Type 0 where
  pub happens : Happens old.serving turn.event turn.answer old.device new.device
  pub serving_is : new.serving ≡ serves_after old.serving turn.answer
  pub looked : IsLookedFor turn.event turn.answer turn.found new.device

-- turns in their order, each from the point that the one before it left
abbrev pub AreTurns : List Turn → Point → Point → Type 0
AreTurns [] old new = new ≡ old
AreTurns (turn ∷ turns) old new =
    (between : Point) × IsTurn turn old between × AreTurns turns between new

-- What was done, from a device on which no store is open: at the end a store is open on a
-- device that is on, or none is; and the cuts rose by one for each answer with a cut, up to
-- the greatest count.
pub record WasDone (turns : List Turn) (old new : Device) : Type 0 where
  pub end : Point
  pub turns_are : AreTurns turns (closed_point old) end
  pub ends_at : end.device ≡ new
  pub serves : end.serving ≡ true → IsOn new × IsStore new
  pub cuts_are : new.cuts
      ≡ min (old.cuts + count_by (λ turn. tells_of_a_cut turn.answer) turns) all_ones

-- these turns have these events, these answers, and of those in which power was cut in a
-- change what was found
pub record AreTold (turns : List Turn) (events : List Event) (log : List Answer) (kept : List Bool)
    : Type 0 where
  pub events_are : map (λ turn. turn.event) turns ≡ events
  pub log_is : map (λ turn. turn.answer) turns ≡ log
  pub kept_is : filter_map (λ turn. turn.found) turns ≡ kept
