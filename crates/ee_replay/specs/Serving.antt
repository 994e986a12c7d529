-- How a script is served at a desk: on a device, with a store open on it or none.
use Rattle.std.specs.Prelude.{◌≡◌, ◌≤◌, ◌+◌, ◌*◌, zero, ℕ, Bool, List, [], ◌∷◌, ◌++◌, codes, if◌then◌else◌, length, Option, Some, None, Ok, Err, true, false, IsSomeAnd}
use Rattle.std.specs.List.{list_any}
use Rattle.ee_flash.specs.Device.{Device, IsOn}
use Rattle.ee_flash.specs.Memory.{with_fuse}
use Rattle.ee_flash.specs.Size.{slot_count}
use Rattle.ee_flash.specs.Taking.{HasFuse}
use Rattle.ee_pages.specs.Legal.{IsLegal}
use Rattle.ee_pages.specs.Meaning.{live_in}
use Rattle.ee_core.specs.Changes.{greatest_generation}
use Rattle.ee_core.specs.Points.{Point, closed_point, with_power_on}
use Rattle.ee_core.specs.Finished.{IsStore}
use Rattle.ee_core.specs.Openings.{IsCutOpening, Opens}
use Rattle.ee_core.specs.Runs.{Call, Wrote, Forgot, DidRead, Follows, IsWholeRun, WearsAtMost}
use Rattle.ee_core.specs.Runs as call
use Rattle.ee_core.specs.State.{State, state_of}
use Rattle.ee_core.specs.declared.variables.ForgetFault.TheVariants as forgetting
use Rattle.ee_core.specs.declared.variables.WriteFault.TheVariants as fault
use Rattle.ee_core.specs.declared.variables.Written.{Written}
use Rattle.ee_core.specs.declared.variables.Written.TheVariants as written
use Rattle.ee_check.specs.declared.certificate.Stretch.{Stretch}
use Rattle.ee_check.specs.Certificate.{Claim, IsTight}
use Rattle.ee_check.specs.Schedule.{IsProper, Situation}
use Rattle.ee_check.specs.Text.{text_of}
use Rattle.ee_plan.specs.Start.{IsStartOf}
use Rattle.ee_interface.specs.declared.script.command.Command.{Command}
use Rattle.ee_interface.specs.declared.script.command.Command.TheVariants.{Write, Read, Forget, Clean, Arm, PowerOn}
use Rattle.ee_interface.specs.declared.script.answer.Answer.{Answer}
use Rattle.ee_interface.specs.declared.script.answer.Answer.TheVariants.{Appended, Moved, Full, Spent, Cleaned, Idle, Value, NoValue, Absent, Armed, Cut, Off, Opened}
use Rattle.ee_interface.specs.Script.Answer as script_answer
use Rattle.ee_interface.specs.Script.Run.{Run}
use Rattle.ee_interface.specs.Script.Whole.{IsAnswered}
use Rattle.ee_image_store.specs.Erases.{ErasesRise, erases_of_all}
use Rattle.ee_image_store.specs.Machine.{Desk, is_arming, was_cut}
use Rattle.ee_replay.specs.Lines.{answer_of, answers_of, armed_point, point_after, point_behind}
use Rattle.ee_replay.specs.Report.{IsDeskReported, desk_line}
use Rattle.ee_image_store.specs.Trace.{accepted_commands, moves, trace_of}

-- ---- the calls of a store

-- the call of a store that serves a command and is not cut, as the answer tells of it
abbrev pub call_of_command : Command → Answer → Option Call
call_of_command (Write address value) Appended = Some (Wrote address value (Ok written.Appended))
call_of_command (Write address value) Moved = Some (Wrote address value (Ok written.Moved))
call_of_command (Write address value) Full = Some (Wrote address value (Err fault.Full))
call_of_command (Write address value) Spent = Some (Wrote address value (Err fault.Spent))
call_of_command (Forget address) Appended = Some (Forgot address (Ok written.Appended))
call_of_command (Forget address) Moved = Some (Forgot address (Ok written.Moved))
call_of_command (Forget address) Absent = Some (Forgot address (Err forgetting.Absent))
call_of_command (Forget address) Spent = Some (Forgot address (Err forgetting.Spent))
call_of_command (Read address) (Value value) = Some (DidRead address (Ok (Some value)))
call_of_command (Read address) NoValue = Some (DidRead address (Ok None))
call_of_command Clean Cleaned = Some (call.Cleaned (Ok true))
call_of_command Clean Idle = Some (call.Cleaned (Ok false))
call_of_command command answer = None

-- the call of a store that is cut in a command; a read makes no step, so none is cut
abbrev pub cut_call_of : Command → Option Call
cut_call_of (Write address value) = Some (Wrote address value (Err fault.Cut))
cut_call_of (Forget address) = Some (Forgot address (Err forgetting.Cut))
cut_call_of Clean = Some (call.Cleaned (Err fault.Cut))
cut_call_of command = None

-- a call before others, if there is one
abbrev pub with_call : Option Call → List Call → List Call
with_call None calls = calls
with_call (Some first) calls = first ∷ calls

-- the calls of a whole script
abbrev pub calls_of : List Command → List Answer → List Call
calls_of (command ∷ commands) (answer ∷ answers) =
    with_call (call_of_command command answer) (calls_of commands answers)
calls_of commands answers = []

-- ---- lines, one after another

-- whether a cut is to come
abbrev pub is_armed : Option ℕ → Bool
is_armed (Some zero) = false
is_armed left = true

-- An open store makes the call of the command, and none is open once power is cut in it; where none
-- is open, the answer is `off`, and nothing is done.
abbrev pub CallAnswers : Bool → Device → Command → Answer → Point → Type 0
CallAnswers true old command Cut new =
    IsSomeAnd (cut_call_of command) (λ made. Follows made old new.device × (new.serving ≡ false))
CallAnswers true old command answer new =
    IsSomeAnd (call_of_command command answer)
    (λ made. Follows made old new.device × (new.serving ≡ true))
CallAnswers false old command Off new = new ≡ closed_point old
CallAnswers false old command answer new = ⊥

-- Power comes on. A store that is open stays as it is; where none is, the store of the image is
-- opened, or that is cut.
abbrev pub PowerAnswers : Bool → Device → Answer → Point → Type 0
PowerAnswers true old Opened new = new ≡ record { serving = true; device = old }
PowerAnswers false old Opened new = Opens (with_power_on old) new.device × (new.serving ≡ true)
PowerAnswers false old Cut new = IsCutOpening (with_power_on old) new.device × (new.serving ≡ false)
PowerAnswers serving old answer new = ⊥

-- From this point the command is answered so, and the desk is at that one afterwards.
abbrev pub LineAnswers : Point → Command → Answer → Point → Type 0
LineAnswers old (Arm fuse) answer new = (answer ≡ Armed) × (new ≡ armed_point fuse old)
LineAnswers old PowerOn answer new = PowerAnswers old.serving old.device answer new
LineAnswers old command answer new = CallAnswers old.serving old.device command answer new

-- the desk, as the report machine knows it
abbrev pub desk_of : Point → Desk
desk_of point = record {
  state = state_of point.device;
  serving = point.serving;
  armed = is_armed point.device.cuts_left;
}

-- a store of this device is open
abbrev pub serving_on : Device → Point
serving_on device = record { serving = true; device = device }

-- whether a line arms a cut
abbrev pub is_armed_by : List Command → Bool
is_armed_by commands = list_any is_arming commands

-- What the lines made of a store that is open on a device on which no cut is to come: each made its
-- call, or armed a cut, or turned power on, and was answered so and left that by the functions of
-- the point before it. Where no line was cut, each move left the pages of a
-- set to be erased, and any other answer none, and no page was erased more often than at every
-- second move, by where it stood; and where no cut was armed either, it is a whole run of calls.
pub record IsMade (old : Device) (commands : List Command) (answers : List Answer) (new : Point)
    : Type 0 where
  pub lines : Run LineAnswers (serving_on old) commands answers new
  pub answers_are : answers ≡ answers_of commands (serving_on old)
  pub point_is : new ≡ point_behind commands (serving_on old)
  pub erases : was_cut answers ≡ false → ErasesRise (erases_of_all old.size answers) old new.device
  pub wears : was_cut answers ≡ false → (page : ℕ) → WearsAtMost (moves answers) page old new.device
  pub calls : was_cut answers ≡ false → is_armed_by commands ≡ false
      → IsWholeRun (calls_of commands answers) old new.device

-- ---- a store that is open, while power is not cut

-- the command is served by its call, or arms a cut, or opens what is open
abbrev pub UncutLineAnswers : Device → Command → Answer → Device → Type 0
UncutLineAnswers old (Arm fuse) Armed new = new ≡ with_fuse fuse old
UncutLineAnswers old PowerOn Opened new = new ≡ old
UncutLineAnswers old command answer new =
    IsSomeAnd (call_of_command command answer) (λ made. Follows made old new)

-- the answer to a change that was stored
abbrev pub stored_answer : Written → Answer
stored_answer written.Appended = Appended
stored_answer written.Moved = Moved

-- ---- what is noted

-- what is noted of the changes that were accepted: how many they are, how many slots were used
-- where the stretch of the certificate that goes on began, the stretches that have ended; and
-- whether power was cut
pub record Notes : Type 0 where
  pub changes : ℕ
  pub from : ℕ
  pub stretches : List Stretch
  pub cut : Bool

-- before the first change, where so many slots are used
abbrev pub no_notes : ℕ → Notes
no_notes fill = record { changes = 0; from = fill; stretches = []; cut = false }

-- A change that is appended is counted. With one that is moved a stretch ends; so many slots are
-- used behind it. A cut is noted.
abbrev pub notes_after : Answer → ℕ → Notes → Notes
notes_after Appended fill notes = record notes { changes = notes.changes + 1 }
notes_after Moved fill notes = record notes {
  changes = notes.changes + 1;
  from = fill;
  stretches = notes.stretches ++ record { to = notes.changes + 1; from = notes.from } ∷ [];
}
notes_after Cut fill notes = record notes { cut = true }
notes_after answer fill notes = notes

-- and so is what was noted behind lines, one after another
abbrev pub notes_behind : List Command → Point → Notes → Notes
notes_behind [] old notes = notes
notes_behind (command ∷ commands) old notes =
    let new : Point = point_after command old in
    notes_behind commands new (notes_after (answer_of command old) (state_of new.device).fill notes)

-- the certificate of what was noted since this start
abbrev pub claim_noted : Situation → Notes → Claim
claim_noted start notes = record {
  slots = start.slots;
  fill = start.fill;
  live = length start.live;
  writes = notes.changes;
  stretches = notes.stretches;
}

-- where a desk is, and what is noted
pub record Noted : Type 0 where
  pub point : Point
  pub notes : Notes

abbrev pub with_notes : Point → Notes → Noted
with_notes point notes = record { point = point; notes = notes }

-- A line is served, and its answer is noted. The fuse of the device is known.
pub record LineIsNoted (old : Noted) (command : Command) (answer : Answer) (new : Noted)
    : Type 0 where
  pub attends : LineAnswers old.point command answer new.point
  pub notes_are : new.notes ≡ notes_after answer (state_of new.point.device).fill old.notes
  pub fused : HasFuse new.point.device

-- The count of the changes stays far below 64 bits: between two moves there are no more
-- of them than slots.
pub record IsCounted (device : Device) (notes : Notes) : Type 0 where
  pub slots : slot_count device.size ≤ 32512
  pub generation : (state_of device).generation ≤ greatest_generation
  pub changes : notes.changes ≤ (state_of device).generation * (slot_count device.size + 1)
      + (state_of device).fill

-- how a desk may be left: its image is legal, and a store that is open is on, with
-- no mark left to set
pub record IsSound (point : Point) : Type 0 where
  pub legal : IsLegal point.device
  pub on : point.serving ≡ true → IsOn point.device
  pub store : point.serving ≡ true → IsStore point.device

-- The lines of a script were answered from a store that is open to a point. What was noted is how
-- often it was moved, whether power was cut, and where it was not, the tight certificate of the
-- changes that were accepted, from each start that is the old state's.
pub record IsTraced (old : Device) (text : List ℕ) (new : Point) (notes : Notes) (lines : List ℕ)
    : Type 0 where
  pub answered : IsAnswered LineAnswers (serving_on old) text new lines
  pub answers_are : answered.answers ≡ answers_of answered.commands (serving_on old)
  pub point_is : new ≡ point_behind answered.commands (serving_on old)
  pub notes_are : notes
      ≡ notes_behind answered.commands (serving_on old) (no_notes (state_of old).fill)
  pub transfers : length notes.stretches ≡ moves answered.answers
  pub cut : notes.cut ≡ was_cut answered.answers
  pub tight : was_cut answered.answers ≡ false → (start : Situation)
      → IsStartOf (slot_count old.size) (state_of old) start → IsProper start
      → IsTight start (trace_of (accepted_commands answered.commands answered.answers))
      (claim_noted start notes)

-- ---- the report as a function

-- what is claimed by what was noted since this state, in so many slots
abbrev pub claim_since : ℕ → State → Notes → Claim
claim_since slots start notes = record {
  slots = slots;
  fill = start.fill;
  live = live_in start.map;
  writes = notes.changes;
  stretches = notes.stretches;
}

-- the text of the certificate; there is none after a cut
abbrev pub certificate_text : ℕ → State → Notes → List ℕ
certificate_text slots start notes =
    if notes.cut then codes "no certificate\n" else text_of (claim_since slots start notes)

-- the report of these lines on a store that is open on this device: the answers, how the desk
-- stands, and the certificate
abbrev pub report_of : Device → List Command → List ℕ
report_of old commands =
    let slots : ℕ = slot_count old.size in
    let last : Point = point_behind commands (serving_on old) in
    let notes : Notes = notes_behind commands (serving_on old) (no_notes (state_of old).fill) in
    script_answer.report (answers_of commands (serving_on old))
    ++ (desk_line slots last.serving (state_of last.device) (length notes.stretches)
    ++ certificate_text slots (state_of old) notes)

-- A script was answered from a store that is open to a point, with the whole report of a run from
-- the one's state to the other's; it is the function's.
pub record IsServed (old : Device) (text : List ℕ) (new : Point) (reported : List ℕ) : Type 0 where
  pub report : IsDeskReported old.size (state_of old) text (desk_of new) reported
  pub made : IsMade old report.commands report.answers new
  pub report_is : reported ≡ report_of old report.commands
  pub same_size : new.device.size ≡ old.size
