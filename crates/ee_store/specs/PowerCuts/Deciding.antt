-- What each event is answered, and what it leaves, as functions of the point before it: of the
-- image, of whether a store is open, and of the fuse.
use Rattle.std.specs.Prelude.{◌≡◌, ◌⊎◌, ◌&&◌, ◌==◌, nat_lt, not, is_some, if◌then◌else◌, ℕ, ◌+◌, Bool, true, false, Option, Some, None, List, [], ◌∷◌, length, zero, suc}
use Rattle.std.specs.List.{list_all}
use Rattle.ee_flash.specs.Device.{Device}
use Rattle.ee_flash.specs.Laws.{after_steps}
use Rattle.ee_flash.specs.Step.{Step}
use Rattle.ee_flash.specs.Taking.{HasFuse}
use Rattle.ee_pages.specs.Legal.{IsLegal}
use Rattle.ee_pages.specs.Meaning as meaning
use Rattle.ee_pages.specs.Meaning.{Change, Map, changed_by, live_in}
use Rattle.ee_pages.specs.Page.{is_blank}
use Rattle.ee_pages.specs.Sets.{live_of}
use Rattle.ee_pages.specs.declared.find.ScanFault.{ScanFault}
use Rattle.ee_pages.specs.declared.find.ScanFault.TheVariants.{Unformatted, NoLiveSet}
use Rattle.ee_core.specs.Changes.{greatest_generation}
use Rattle.ee_core.specs.Points.{Point, closed_point, with_power_on}
use Rattle.ee_core.specs.Puts.{is_twice, puts_of}
use Rattle.ee_core.specs.Starts.{IsStartable}
use Rattle.ee_core.specs.State.{State, capacity, state_of}
use Rattle.ee_core.specs.StepLists.{steps_of_clean, steps_of_clear, steps_of_format, steps_of_making, steps_of_open}
use Rattle.ee_core.specs.declared.change.Put as listed
use Rattle.ee_core.specs.declared.opening.OpenFault.TheVariants as opening
use Rattle.ee_core.specs.declared.variables.ClearFault.TheVariants as clear
use Rattle.ee_core.specs.declared.variables.ForgetFault.TheVariants as forget
use Rattle.ee_core.specs.declared.variables.WriteAllFault.TheVariants as all
use Rattle.ee_core.specs.declared.variables.WriteFault.TheVariants as write
use Rattle.ee_core.specs.declared.variables.Written.{Written}
use Rattle.ee_core.specs.declared.variables.Written.TheVariants.{Appended, Moved}
use Rattle.ee_store.specs.PowerCuts.Events.{serves_after}
use Rattle.ee_store.specs.declared.power_cuts.event.Answer.{Answer}
use Rattle.ee_store.specs.declared.power_cuts.event.Answer.TheVariants.{Cleaned, Cleared, Done, NotCleared, NotForgotten, NotOpened, NotWritten, Off, Opened, Refused, Value}
use Rattle.ee_store.specs.declared.power_cuts.event.Event.{Event}
use Rattle.ee_store.specs.declared.power_cuts.event.Event.TheVariants.{Clean, Clear, Forget, Get, Put, PutAll, Reopen, Start}

-- ---- refusals

-- there is no slot for the address of a put, or no value to forget
abbrev pub has_no_place : ℕ → State → Change → Bool
has_no_place slots state (meaning.Put address value) =
    not (is_some (state.map address)) && (live_in state.map == slots)
has_no_place slots state (meaning.Forget address) = not (is_some (state.map address))

-- in so many slots there is no place for the changes
abbrev pub have_no_place : ℕ → State → List Change → Bool
have_no_place slots state [] = false
have_no_place slots state (change ∷ []) = has_no_place slots state change
have_no_place slots state changes = nat_lt slots (live_in (changed_by changes state.map))

-- they need a transfer, and no generation is left for it
abbrev pub are_spent : ℕ → State → List Change → Bool
are_spent slots state [] = false
are_spent slots state (change ∷ []) =
    (state.fill == slots) && (state.generation == greatest_generation)
are_spent slots state changes = state.generation == greatest_generation

-- the first of these that applies, if one does
abbrev pub refusal_of : Answer → Answer → List Change → ℕ → State → Option Answer
refusal_of no_place spent changes slots state =
    if have_no_place slots state changes then Some no_place
    else (if are_spent slots state changes then Some spent else None)

-- of so many numbers from this one on the first that passes the test
abbrev pub first_of : (ℕ → Bool) → ℕ → ℕ → Option ℕ
first_of test from zero = None
first_of test from (suc more) = if test from then Some from else first_of test (from + 1) more

-- a list is refused that has an address twice, and an empty one is done
abbrev pub list_at_once : Option ℕ → List Change → ℕ → State → Option Answer
list_at_once (Some place) changes slots state = Some (NotWritten (all.Twice place))
list_at_once None [] slots state = Some (Done Appended)
list_at_once None changes slots state =
    refusal_of (NotWritten all.Full) (NotWritten all.Spent) changes slots state

-- ---- what an event begins with, on a device that is on

-- why no store is opened of a device without a live set
abbrev pub fault_of : Device → ScanFault
fault_of device = if list_all is_blank device.image then Unformatted else NoLiveSet

-- the answer that takes no step
abbrev pub event_at_once : Event → Device → Option Answer
event_at_once (Put address value) device =
    refusal_of (Refused write.Full) (Refused write.Spent) (meaning.Put address value ∷ [])
    (capacity device) (state_of device)
event_at_once (PutAll puts) device =
    list_at_once (first_of (is_twice puts.now) 0 (length puts.now)) (puts_of puts.now)
    (capacity device) (state_of device)
event_at_once (Forget address) device =
    refusal_of (NotForgotten forget.Absent) (NotForgotten forget.Spent)
    (meaning.Forget address ∷ []) (capacity device) (state_of device)
event_at_once (Get address) device = Some (Value ((state_of device).map address))
event_at_once Clear device =
    if (state_of device).fill == 0 then Some (Cleared false)
    else (if (state_of device).generation == greatest_generation then
    Some (NotCleared clear.Spent)
    else None)
event_at_once Clean device = if (state_of device).pending == 0 then Some (Cleaned false) else None
event_at_once Reopen device =
    if is_some (live_of device) then None else Some (NotOpened (opening.Scan (fault_of device)))
event_at_once Start device = None

-- else the steps that are taken
abbrev pub steps_of_event : Event → Device → List Step
steps_of_event (Put address value) device =
    steps_of_making (meaning.Put address value ∷ []) device
steps_of_event (PutAll puts) device = steps_of_making (puts_of puts.now) device
steps_of_event (Forget address) device = steps_of_making (meaning.Forget address ∷ []) device
steps_of_event (Get address) device = []
steps_of_event Clear device = steps_of_clear device
steps_of_event Clean device = steps_of_clean device
steps_of_event Reopen device = steps_of_open device
steps_of_event Start device =
    if is_some (live_of device) then steps_of_open device else steps_of_format device

-- how changes are stored: one is appended while a slot is free
abbrev pub written_by : List Change → Device → Written
written_by (change ∷ []) device =
    if nat_lt (state_of device).fill (capacity device) then Appended else Moved
written_by changes device = Moved

-- the answer behind all of them
abbrev pub answer_when_done : Event → Device → Answer
answer_when_done (Put address value) device =
    Done (written_by (meaning.Put address value ∷ []) device)
answer_when_done (PutAll puts) device = Done (written_by (puts_of puts.now) device)
answer_when_done (Forget address) device = Done (written_by (meaning.Forget address ∷ []) device)
answer_when_done (Get address) device = Off
answer_when_done Clear device = Cleared true
answer_when_done Clean device = Cleaned true
answer_when_done Reopen device = Opened
answer_when_done Start device = Opened

-- and behind a cut
abbrev pub answer_when_cut : Event → Answer
answer_when_cut (PutAll puts) = NotWritten all.Cut
answer_when_cut (Forget address) = NotForgotten forget.Cut
answer_when_cut Clear = NotCleared clear.Cut
answer_when_cut Reopen = NotOpened opening.Cut
answer_when_cut Start = NotOpened opening.Cut
answer_when_cut event = Refused write.Cut

-- ---- an event

-- what is answered at once leaves the device as it is
abbrev pub left_by_steps : Option Answer → List Step → Device → Device
left_by_steps (Some answer) steps device = device
left_by_steps None steps device = after_steps steps device

-- where the steps leave it off, power was cut in one
abbrev pub answer_by_power : Option Answer → Answer → Answer → Device → Answer
answer_by_power (Some answer) whole cut new = answer
answer_by_power None whole cut new = if new.on then whole else cut

-- on a device that is on
abbrev pub device_met : Event → Device → Device
device_met event device =
    left_by_steps (event_at_once event device) (steps_of_event event device) device

abbrev pub answer_met : Event → Device → Answer
answer_met event device =
    answer_by_power (event_at_once event device) (answer_when_done event device)
    (answer_when_cut event) (device_met event device)

-- where no store is open, an event but an opening does nothing
abbrev pub device_served : Bool → Event → Device → Device
device_served serving Reopen device = device_met Reopen (with_power_on device)
device_served serving Start device = device_met Start (with_power_on device)
device_served true event device = device_met event device
device_served false event device = device

abbrev pub answer_served : Bool → Event → Device → Answer
answer_served serving Reopen device = answer_met Reopen (with_power_on device)
answer_served serving Start device = answer_met Start (with_power_on device)
answer_served true event device = answer_met event device
answer_served false event device = Off

-- what an event is answered
abbrev pub event_answer : Event → Point → Answer
event_answer event old = answer_served old.serving event old.device

-- and what it leaves
abbrev pub point_after_event : Event → Point → Point
point_after_event event old = record {
  serving = serves_after old.serving (event_answer event old);
  device = device_served old.serving event old.device;
}

-- ---- what is looked for

abbrev pub has_value : Option ℕ → ℕ → Bool
has_value None value = false
has_value (Some held) value = held == value

abbrev pub has_all : List listed.Put → Map → Bool
has_all [] map = true
has_all (put ∷ puts) map = has_value (map put.address) put.value && has_all puts map

-- behind an event that is answered so the map is looked up, where power was cut in a change
abbrev pub found_by : Event → Answer → Map → Option Bool
found_by (Put address value) (Refused write.Cut) map = Some (has_value (map address) value)
found_by (PutAll puts) (NotWritten all.Cut) map = Some (has_all puts.now map)
found_by (Forget address) (NotForgotten forget.Cut) map = Some (not (is_some (map address)))
found_by Clear (NotCleared clear.Cut) map = Some (live_in map == 0)
found_by event answer map = None

abbrev pub found_of : Event → Point → Option Bool
found_of event old =
    found_by event (event_answer event old) (state_of (point_after_event event old).device).map

-- ---- events, one after another

abbrev pub event_answers : List Event → Point → List Answer
event_answers [] old = []
event_answers (event ∷ events) old =
    event_answer event old ∷ event_answers events (point_after_event event old)

abbrev pub noted_with : Option Bool → List Bool → List Bool
noted_with None kept = kept
noted_with (Some found) kept = found ∷ kept

abbrev pub kept_of : List Event → Point → List Bool
kept_of [] old = []
kept_of (event ∷ events) old =
    noted_with (found_of event old) (kept_of events (point_after_event event old))

abbrev pub point_behind_events : List Event → Point → Point
point_behind_events [] old = old
point_behind_events (event ∷ events) old = point_behind_events events (point_after_event event old)

-- the answers, what was found and the device are those of the functions
pub record IsDecided (old : Device) (events : List Event) (log : List Answer) (kept : List Bool)
    (new : Device) : Type 0 where
  pub log_is : log ≡ event_answers events (closed_point old)
  pub kept_is : kept ≡ kept_of events (closed_point old)
  pub device_is : new ≡ (point_behind_events events (closed_point old)).device

-- So it is of a device whose fuse is known, before and behind the events, as that of one in memory
-- is, from a legal image and from one on which no value was ever stored.
abbrev pub ByFuse : Device → List Event → List Answer → List Bool → Device → Type 0
ByFuse old events log kept new =
    HasFuse old → HasFuse new → IsLegal old ⊎ IsStartable old → IsDecided old events log kept new
