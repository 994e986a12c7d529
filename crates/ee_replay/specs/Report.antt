-- The report of a script: its answers, how the store stands at the end, and the certificate that
-- the moves are the fewest.
use Rattle.std.specs.Prelude.{◌≡◌, ◌-◌, ℕ, Bool, true, false, List, ◌++◌, codes, decimal}
use Rattle.ee_flash.specs.Size.{Size, slot_count}
use Rattle.ee_pages.specs.Meaning.{changed_by, live_in}
use Rattle.ee_core.specs.State.{State}
use Rattle.ee_check.specs.Certificate.{Claim}
use Rattle.ee_check.specs.Schedule.{Situation}
use Rattle.ee_check.specs.Text.{text_of}
use Rattle.ee_plan.specs.Start.{IsStartOf}
use Rattle.ee_plan.specs.Wearing.{NoneWearsLess}
use Rattle.ee_interface.specs.Script.Answer.{report}
use Rattle.ee_interface.specs.Script.Run.{Run}
use Rattle.ee_interface.specs.Script.Script.{IsScript}
use Rattle.ee_interface.specs.declared.script.answer.Answer.{Answer}
use Rattle.ee_interface.specs.declared.script.command.Command.{Command}
use Rattle.ee_image_store.specs.Machine.{Desk, DeskStep, MachineStep, desk_with, was_cut}
use Rattle.ee_replay.specs.Kept.{Keeps}
use Rattle.ee_image_store.specs.Trace.{AreFewest, TraceFits, NoneEndsWithMoreRoom, accepted_commands, moves, map_changes, trace_of}

-- how a store of so many slots stands, and how many answers were `moved`
abbrev pub end_line : ℕ → State → ℕ → List ℕ
end_line slots state transfers =
    codes "end fill " ++ decimal state.fill ++ codes " room " ++ decimal (slots - state.fill)
    ++ codes " live " ++ decimal (live_in state.map)
    ++ codes " pending " ++ decimal state.pending ++ codes " transfers " ++ decimal transfers
    ++ codes "\n"

-- the lines of the answers, the line of the end, and the text of the certificate
abbrev pub report_text : ℕ → List Answer → State → Claim → List ℕ
report_text slots answers state claim =
    report answers ++ (end_line slots state (moves answers) ++ text_of claim)

-- Power was not cut: from the old state, on a device of this size, these commands got these answers
-- as the report machine gives them, and the new state is what it came to. The moves are the fewest
-- for the changes that were accepted, no store that makes as few has more room at the end, none
-- erases the first pages of its sets less often than so many moves ask, and the report prints the
-- certificate. Every address reads the value last written to it by them, or as before, and has none
-- where it was forgotten since; and where all changes fit, what was accepted is each write and each
-- forgetting of the script, with its address and its value.
pub record IsReported (size : Size) (old : State) (commands : List Command) (answers : List Answer)
    (new : State) (reported : List ℕ) : Type 0 where
  pub start : Situation
  pub claim : Claim
  pub run : Run (MachineStep size) old commands answers new
  pub start_is : IsStartOf (slot_count size) old start
  pub fewest : AreFewest start (trace_of (accepted_commands commands answers)) answers claim
  pub room : NoneEndsWithMoreRoom start (trace_of (accepted_commands commands answers))
      (moves answers) new.fill
  pub lasts : NoneWearsLess start (trace_of (accepted_commands commands answers)) (moves answers)
  pub values : new.map ≡ changed_by (map_changes (accepted_commands commands answers)) old.map
  pub all_accepted : TraceFits start old commands
      → map_changes (accepted_commands commands answers) ≡ map_changes commands
  pub report_is : reported ≡ report_text (slot_count size) answers new claim

-- ---- with power cuts

-- how a desk stands where a store is open, or where none is, and how many answers were `moved`
abbrev pub desk_line : ℕ → Bool → State → ℕ → List ℕ
desk_line slots true state transfers = end_line slots state transfers
desk_line slots false state transfers =
    codes "end off transfers " ++ decimal transfers ++ codes "\n"

-- after a cut there is no certificate: the lines of the answers, the line of the end, and this
abbrev pub cut_report_text : ℕ → List Answer → Desk → List ℕ
cut_report_text slots answers desk =
    report answers
    ++ (desk_line slots desk.serving desk.state (moves answers) ++ codes "no certificate\n")

-- From a store that is open with the old state, on a device of this size, the script was
-- answered as the machine's desk answers it, and the new desk is what it came to. Whatever was
-- cut, each change that was answered is kept, and each read is the map at its point. Where no
-- line was answered `cut`, all is said that there is to say of a store whose power stays on;
-- else there is no certificate.
pub record IsDeskReported (size : Size) (old : State) (text : List ℕ) (new : Desk)
    (reported : List ℕ) : Type 0 where
  pub commands : List Command
  pub answers : List Answer
  pub is_script : IsScript text commands
  pub run : Run (DeskStep size) (desk_with old) commands answers new
  pub kept : Run Keeps old.map commands answers new.state.map
  pub uncut : was_cut answers ≡ false → IsReported size old commands answers new.state reported
  pub cut : was_cut answers ≡ true → reported ≡ cut_report_text (slot_count size) answers new
