-- What holds of every run at a desk.
use Rattle.std.specs.Prelude.{◌≡◌, ◌&&◌, ◌||◌, Bool, not, true, List, ◌∷◌}
use Rattle.ee_flash.specs.Size.{Size}
use Rattle.ee_interface.specs.Script.Run.{Run}
use Rattle.ee_interface.specs.declared.script.answer.Answer.{Answer}
use Rattle.ee_interface.specs.declared.script.command.Command.{Command}
use Rattle.ee_image_store.specs.Machine.{Desk, DeskStep, is_arming, is_cut_answer}

-- A line is answered `cut` only where a cut is to come, as it is, or not, before the first line.
-- None is to come behind a `cut`, and one is behind each line that arms one.
abbrev pub CutsAreArmed : Bool → List Command → List Answer → Type 0
CutsAreArmed armed (command ∷ commands) (answer ∷ answers) =
    (is_cut_answer answer ≡ true → armed ≡ true)
    × CutsAreArmed ((armed && not (is_cut_answer answer)) || is_arming command) commands answers
CutsAreArmed armed commands answers = Unit {0}

-- so it is in every run at a desk
abbrev pub EachCutWasArmed : Type 0
EachCutWasArmed =
    (size : Size) (commands : List Command) (answers : List Answer) (old new : Desk)
    → Run (DeskStep size) old commands answers new
    → CutsAreArmed old.armed commands answers
