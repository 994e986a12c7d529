-- The changes that a script makes, as a trace, and what is shown of the moves among them: none of
-- them could be spared.
use Rattle.std.specs.Prelude.{◌≡◌, ◌≢◌, ◌⊎◌, ◌+◌, ◌<◌, ◌≤◌, ℕ, List, [], ◌∷◌, None, length, map}
use Rattle.ee_pages.specs.Meaning as meaning
use Rattle.ee_core.specs.Changes.{greatest_generation}
use Rattle.ee_core.specs.State.{State}
use Rattle.ee_check.specs.declared.change.Change.{Change}
use Rattle.ee_check.specs.declared.change.Change.TheVariants as change
use Rattle.ee_check.specs.Certificate.{Claim, IsCertificate, IsTight}
use Rattle.ee_check.specs.Live.{KeepsWithin}
use Rattle.ee_check.specs.Schedule.{IsSchedule, Move, Situation, after_moves, cost}
use Rattle.ee_interface.specs.declared.script.command.Command.{Command}
use Rattle.ee_interface.specs.declared.script.command.Command.TheVariants.{Write, Forget}
use Rattle.ee_interface.specs.declared.script.answer.Answer.{Answer}
use Rattle.ee_interface.specs.declared.script.answer.Answer.TheVariants.{Appended, Moved}

-- each write and each forgetting of a script, as a change of a trace
abbrev pub trace_of : List Command → List Change
trace_of [] = []
trace_of (Write address value ∷ commands) = change.Write address ∷ trace_of commands
trace_of (Forget address ∷ commands) = change.Forget address ∷ trace_of commands
trace_of (command ∷ commands) = trace_of commands

-- the commands that changed the map: those answered `ok` or `moved`
abbrev pub accepted_commands : List Command → List Answer → List Command
accepted_commands (command ∷ commands) (Appended ∷ answers) =
    command ∷ accepted_commands commands answers
accepted_commands (command ∷ commands) (Moved ∷ answers) =
    command ∷ accepted_commands commands answers
accepted_commands (command ∷ commands) (answer ∷ answers) = accepted_commands commands answers
accepted_commands commands answers = []

-- which of these were answered `moved`, counted from 1, where n come before them
abbrev pub moved_at : ℕ → List Answer → List ℕ
moved_at n [] = []
moved_at n (Appended ∷ answers) = moved_at (n + 1) answers
moved_at n (Moved ∷ answers) = (n + 1) ∷ moved_at (n + 1) answers
moved_at n (answer ∷ answers) = moved_at n answers

-- how many they are
abbrev pub moves : List Answer → ℕ
moves answers = length (moved_at 0 answers)

-- what commands write and what they forget, as changes of a map
abbrev pub map_changes : List Command → List meaning.Change
map_changes [] = []
map_changes (Write address value ∷ commands) = meaning.Put address value ∷ map_changes commands
map_changes (Forget address ∷ commands) = meaning.Forget address ∷ map_changes commands
map_changes (command ∷ commands) = map_changes commands

-- each forgetting is of an address that has a value: in this map of values, changed by
-- what stands before it
abbrev pub ForgetsWhatIsHeld : meaning.Map → List Command → Type 0
ForgetsWhatIsHeld values [] = Unit {0}
ForgetsWhatIsHeld values (Write address value ∷ commands) =
    ForgetsWhatIsHeld (meaning.map_after (meaning.Put address value) values) commands
ForgetsWhatIsHeld values (Forget address ∷ commands) =
    (values address ≢ None)
    × ForgetsWhatIsHeld (meaning.map_after (meaning.Forget address) values) commands
ForgetsWhatIsHeld values (command ∷ commands) = ForgetsWhatIsHeld values commands

-- Each change of the script is made: never are more addresses live than there are slots,
-- each forgetting is of an address that has a value, and a generation is left for each
-- change, were it to move.
pub record TraceFits (start : Situation) (state : State) (commands : List Command) : Type 0 where
  pub keeps : KeepsWithin start.slots start.live (trace_of commands)
  pub held : ForgetsWhatIsHeld state.map commands
  pub generations : state.generation + length (trace_of commands) ≤ greatest_generation

-- From a start, the moves among the answers are the fewest: they stand exactly where the stretches
-- of the trace's one tight certificate end, which the checker accepts; some store that transfers
-- when it likes makes as many transfers, and none makes fewer.
pub record AreFewest (start : Situation) (trace : List Change) (answers : List Answer)
    (claim : Claim) : Type 0 where
  pub tight : IsTight start trace claim
  pub certificate : IsCertificate start trace claim
  pub positions : moved_at 0 answers ≡ map (λ stretch. stretch.to) claim.stretches
  pub reached : (schedule : List Move) × IsSchedule start trace schedule
      × (cost schedule ≡ moves answers)
  pub fewest : (schedule : List Move) → IsSchedule start trace schedule
      → moves answers ≤ cost schedule

-- Each store makes more transfers than these, or as many, and has at least so many
-- slots used at the end.
abbrev pub NoneEndsWithMoreRoom : Situation → List Change → ℕ → ℕ → Type 0
NoneEndsWithMoreRoom start trace transfers fill =
    (schedule : List Move) → IsSchedule start trace schedule
    → (transfers < cost schedule)
    ⊎ ((cost schedule ≡ transfers) × (fill ≤ (after_moves start schedule).fill))
