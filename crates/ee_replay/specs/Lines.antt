-- What each line of a script is answered and what it leaves, as functions of the point before it:
-- of the image, of whether a store is open, and of the fuse.
use Rattle.std.specs.Prelude.{◌&&◌, ◌==◌, nat_lt, if◌then◌else◌, not, is_some, ℕ, Bool, true, false, Option, Some, None, List, [], ◌∷◌}
use Rattle.ee_flash.specs.Device.{Device}
use Rattle.ee_flash.specs.Laws.{after_steps}
use Rattle.ee_flash.specs.Memory.{with_fuse}
use Rattle.ee_flash.specs.declared.fuse.Fuse.{Fuse}
use Rattle.ee_flash.specs.Step.{Step}
use Rattle.ee_pages.specs.Meaning.{Put, live_in}
use Rattle.ee_pages.specs.Meaning as meaning
use Rattle.ee_core.specs.Changes.{greatest_generation}
use Rattle.ee_core.specs.Points.{Point, closed_point, open_point, with_power_on}
use Rattle.ee_core.specs.State.{State, capacity, state_of}
use Rattle.ee_core.specs.StepLists.{steps_of_clean, steps_of_making, steps_of_open}
use Rattle.ee_interface.specs.declared.script.command.Command.{Command}
use Rattle.ee_interface.specs.declared.script.command.Command.TheVariants.{Write, Read, Forget, Clean, Arm, PowerOn}
use Rattle.ee_interface.specs.declared.script.answer.Answer.{Answer}
use Rattle.ee_interface.specs.declared.script.answer.Answer.TheVariants.{Appended, Moved, Full, Spent, Cleaned, Idle, Value, NoValue, Absent, Armed, Cut, Off, Opened}

-- ---- a call of an open store

-- in so many slots there is no room for the address
abbrev pub finds_no_room : ℕ → State → ℕ → Bool
finds_no_room slots state address =
    not (is_some (state.map address)) && (live_in state.map == slots)

-- a transfer would be needed, and no generation is left for it
abbrev pub is_spent : ℕ → State → Bool
is_spent slots state = (state.fill == slots) && (state.generation == greatest_generation)

-- what a read is answered
abbrev pub read_answer : Option ℕ → Answer
read_answer (Some value) = Value value
read_answer None = NoValue

-- the answer that takes no step: the first refusal that applies, what is read, that no page waits
abbrev pub answer_at_once : Command → ℕ → State → Option Answer
answer_at_once (Write address value) slots state =
    if finds_no_room slots state address then Some Full
    else (if is_spent slots state then Some Spent else None)
answer_at_once (Forget address) slots state =
    if is_some (state.map address) then (if is_spent slots state then Some Spent else None)
    else Some Absent
answer_at_once (Read address) slots state = Some (read_answer (state.map address))
answer_at_once Clean slots state = if state.pending == 0 then Some Idle else None
answer_at_once command slots state = None

-- else the steps that are taken
abbrev pub steps_of_command : Command → Device → List Step
steps_of_command (Write address value) device = steps_of_making (Put address value ∷ []) device
steps_of_command (Forget address) device = steps_of_making (meaning.Forget address ∷ []) device
steps_of_command Clean device = steps_of_clean device
steps_of_command command device = []

-- and the answer behind them
abbrev pub answer_behind : Command → ℕ → State → Answer
answer_behind Clean slots state = Cleaned
answer_behind command slots state = if nat_lt state.fill slots then Appended else Moved

abbrev pub device_left : Option Answer → List Step → Device → Device
device_left (Some answer) steps device = device
device_left None steps device = after_steps steps device

abbrev pub answer_given : Option Answer → Answer → Device → Answer
answer_given (Some answer) whole new = answer
answer_given None whole new = if new.on then whole else Cut

-- what the call leaves
abbrev pub device_called : Command → Device → Device
device_called command device =
    device_left (answer_at_once command (capacity device) (state_of device))
    (steps_of_command command device) device

-- what it is answered: that it was cut, where the fuse left the device off
abbrev pub answer_called : Command → Device → Answer
answer_called command device =
    answer_given (answer_at_once command (capacity device) (state_of device))
    (answer_behind command (capacity device) (state_of device)) (device_called command device)

-- ---- a line

-- power comes on, and the store is opened
abbrev pub device_opened : Device → Device
device_opened device = after_steps (steps_of_open (with_power_on device)) (with_power_on device)

-- the same, and a call, by whether a store is open
abbrev pub point_opened : Bool → Device → Point
point_opened true device = record { serving = true; device = device }
point_opened false device = open_point (device_opened device)

abbrev pub opening_answer : Bool → Device → Answer
opening_answer true device = Opened
opening_answer false device = if (device_opened device).on then Opened else Cut

abbrev pub point_called : Bool → Command → Device → Point
point_called true command device = open_point (device_called command device)
point_called false command device = closed_point device

abbrev pub calling_answer : Bool → Command → Device → Answer
calling_answer true command device = answer_called command device
calling_answer false command device = Off

-- a line arms its fuse: a store is open if one was
abbrev pub armed_point : Fuse → Point → Point
armed_point fuse point = record point { device = with_fuse fuse point.device }

-- the point that a line leaves
abbrev pub point_after : Command → Point → Point
point_after (Arm fuse) old = armed_point fuse old
point_after PowerOn old = point_opened old.serving old.device
point_after command old = point_called old.serving command old.device

-- the answer to it
abbrev pub answer_of : Command → Point → Answer
answer_of (Arm fuse) old = Armed
answer_of PowerOn old = opening_answer old.serving old.device
answer_of command old = calling_answer old.serving command old.device

-- ---- a script

-- the answers to lines, one after another
abbrev pub answers_of : List Command → Point → List Answer
answers_of [] old = []
answers_of (command ∷ commands) old =
    answer_of command old ∷ answers_of commands (point_after command old)

-- the point that they leave
abbrev pub point_behind : List Command → Point → Point
point_behind [] old = old
point_behind (command ∷ commands) old = point_behind commands (point_after command old)
