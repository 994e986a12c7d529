-- The report machine: what a script's commands are answered, and what they leave of a store's
-- state.
use Rattle.std.specs.Prelude.{◌≡◌, ◌≢◌, ◌⊎◌, ◌<◌, ◌≤◌, ◌-◌, Bool, true, false, List, [], ◌∷◌, Some, None}
use Rattle.std.specs.List.{list_any}
use Rattle.ee_flash.specs.Size.{Size, slot_count}
use Rattle.ee_pages.specs.Meaning.{Change, Put}
use Rattle.ee_pages.specs.Meaning as meaning
use Rattle.ee_core.specs.State.{State, appended_state, moved_state, with_pending}
use Rattle.ee_core.specs.Changes.{IsAccepted, IsCutAppend, IsCutMove, IsFull, IsSpent}
use Rattle.ee_interface.specs.declared.script.command.Command.{Command}
use Rattle.ee_interface.specs.declared.script.command.Command.TheVariants.{Write, Read, Forget, Clean, Arm, PowerOn}
use Rattle.ee_interface.specs.declared.script.answer.Answer.{Answer}
use Rattle.ee_interface.specs.declared.script.answer.Answer.TheVariants.{Appended, Moved, Full, Spent, Cleaned, Idle, Value, NoValue, Absent, Armed, Cut, Off, Opened}

-- ---- a store that is open, while power is not cut

-- On a device of this size: from old, the machine answers the command so, and goes on to new.
abbrev pub MachineStep : Size → State → Command → Answer → State → Type 0
-- A write is refused, for the first cause that applies, and changes nothing; or it is appended
-- where a slot is free; or it is moved with the map to the other set.
MachineStep size old (Write address value) Full new =
    IsFull (slot_count size) old address × (new ≡ old)
MachineStep size old (Write address value) Spent new =
    ¬ IsFull (slot_count size) old address × IsSpent (slot_count size) old × (new ≡ old)
MachineStep size old (Write address value) Appended new =
    IsAccepted (slot_count size) old (Put address value ∷ []) × (old.fill < slot_count size)
    × (new ≡ appended_state (Put address value) old)
MachineStep size old (Write address value) Moved new =
    IsAccepted (slot_count size) old (Put address value ∷ []) × (old.fill ≡ slot_count size)
    × (new ≡ moved_state size.pages (Put address value ∷ []) old)
-- So it is with a forgetting, of an address that has a value.
MachineStep size old (Forget address) Absent new = (old.map address ≡ None) × (new ≡ old)
MachineStep size old (Forget address) Spent new =
    (old.map address ≢ None) × IsSpent (slot_count size) old × (new ≡ old)
MachineStep size old (Forget address) Appended new =
    IsAccepted (slot_count size) old (meaning.Forget address ∷ []) × (old.fill < slot_count size)
    × (new ≡ appended_state (meaning.Forget address) old)
MachineStep size old (Forget address) Moved new =
    IsAccepted (slot_count size) old (meaning.Forget address ∷ []) × (old.fill ≡ slot_count size)
    × (new ≡ moved_state size.pages (meaning.Forget address ∷ []) old)
-- A read gives what the map has.
MachineStep size old (Read address) (Value value) new = (old.map address ≡ Some value) × (new ≡ old)
MachineStep size old (Read address) NoValue new = (old.map address ≡ None) × (new ≡ old)
-- A clean step erases a page that waits, if one does.
MachineStep size old Clean Cleaned new =
    (0 < old.pending) × (new ≡ with_pending (old.pending - 1) old)
MachineStep size old Clean Idle new = (old.pending ≡ 0) × (new ≡ old)
-- A line that arms a cut changes nothing yet, nor does one that turns power on and
-- opens what is open.
MachineStep size old (Arm fuse) Armed new = new ≡ old
MachineStep size old PowerOn Opened new = new ≡ old
-- No other answer is given.
MachineStep size old command answer new = ⊥

-- ---- power that is cut and comes back

-- a desk: the state that the image on it says, whether a store is open, and whether a cut is to
-- come
pub record Desk : Type 0 where
  pub state : State
  pub serving : Bool
  pub armed : Bool

-- a store with this state is open, and no cut is to come
abbrev pub desk_with : State → Desk
desk_with state = record { state = state; serving = true; armed = false }

-- A change that is not refused is cut: it is made or not, a slot may be torn, and of a move no more
-- may be done than some erases.
pub record CutsChange (size : Size) (old : State) (change : Change) (new : State) : Type 0 where
  pub accepted : IsAccepted (slot_count size) old (change ∷ [])
  pub within : old.fill ≤ slot_count size
  pub free : old.fill < slot_count size → IsCutAppend old change new
  pub all_used : old.fill ≡ slot_count size → IsCutMove size.pages size.pages old (change ∷ []) new

-- power is cut in a call of an open store; a read makes no step, so none is cut
abbrev pub CutStep : Size → State → Command → State → Type 0
CutStep size old (Write address value) new = CutsChange size old (Put address value) new
CutStep size old (Forget address) new = CutsChange size old (meaning.Forget address) new
CutStep size old Clean new =
    (0 < old.pending) × ((new ≡ old) ⊎ (new ≡ with_pending (old.pending - 1) old))
CutStep size old command new = ⊥

-- an open store answers; where none is open the answer is `off`, and nothing changes
abbrev pub StoreStep : Size → Bool → State → Command → Answer → State → Type 0
StoreStep size true old command answer new = MachineStep size old command answer new
StoreStep size false old command Off new = new ≡ old
StoreStep size false old command answer new = ⊥

abbrev pub is_arming : Command → Bool
is_arming (Arm fuse) = true
is_arming command = false

abbrev pub is_cut_answer : Answer → Bool
is_cut_answer Cut = true
is_cut_answer answer = false

-- whether power was cut in a line
abbrev pub was_cut : List Answer → Bool
was_cut answers = list_any is_cut_answer answers

-- A call of an open store is cut, if a cut is to come: then no store is open, and none is to
-- come. Or it is answered.
abbrev pub CallStep : Bool → Size → Desk → Command → Answer → Desk → Type 0
CallStep true size old command answer new =
    (old.serving ≡ true) × (old.armed ≡ true) × CutStep size old.state command new.state
    × (new ≡ record { state = new.state; serving = false; armed = false })
CallStep false size old command answer new =
    StoreStep size old.serving old.state command answer new.state
    × (new ≡ record old { state = new.state })

-- Power comes on, and a store is open, which holds what was held; or that is cut,
-- where none was open.
abbrev pub PowerStep : Desk → Answer → Desk → Type 0
PowerStep old Opened new = new ≡ record old { serving = true }
PowerStep old Cut new =
    (old.serving ≡ false) × (old.armed ≡ true) × (new ≡ record old { armed = false })
PowerStep old answer new = ⊥

-- From old, on a device of this size, the desk answers the command so, and is new afterwards: a cut
-- is armed, power comes on, or the store is called.
abbrev pub DeskStep : Size → Desk → Command → Answer → Desk → Type 0
DeskStep size old (Arm fuse) answer new = (answer ≡ Armed) × (new ≡ record old { armed = true })
DeskStep size old PowerOn answer new = PowerStep old answer new
DeskStep size old command answer new = CallStep (is_cut_answer answer) size old command answer new
