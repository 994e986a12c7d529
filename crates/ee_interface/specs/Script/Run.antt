-- A run: one answer for each command, one step after another.
use Rattle.std.specs.Prelude.{◌≡◌, List, [], ◌∷◌}
use Rattle.ee_interface.specs.declared.script.command.Command.{Command}
use Rattle.ee_interface.specs.declared.script.answer.Answer.{Answer}

-- From old, what takes these steps may give these answers to these commands, and is new in the end.
abbrev pub Run : {S : Type 0} → (S → Command → Answer → S → Type 0) → S → List Command → List Answer
    → S → Type 0
Run step old [] [] new = new ≡ old
Run {S} step old (command ∷ commands) (answer ∷ answers) new =
    (mid : S) × step old command answer mid × Run step mid commands answers new
Run step old [] (answer ∷ answers) new = ⊥
Run step old (command ∷ commands) [] new = ⊥
