-- A run of what serves is a run of what is seen of it.
use Rattle.std.proofs.Common.{ℕ, List, [], ◌∷◌, ap, rules}
use Rattle.ee_interface.specs.declared.script.command.Command.{Command}
use Rattle.ee_interface.specs.declared.script.answer.Answer.{Answer}
use Rattle.ee_interface.specs.Script.Run.{Run}
use Rattle.ee_interface.specs.Script.Whole.{IsAnswered}

pub Run-seen : {S T : Type 0} (see : S → T) (step : T → Command → Answer → T → Type 0) (old new : S)
    (commands : List Command) (answers : List Answer)
    → Run (λ s c a t. step (see s) c a (see t)) old commands answers new
    → Run step (see old) commands answers (see new)
Run-seen see step old new [] [] run = ap see run
Run-seen see step old new [] (a ∷ answers) run = absurd run
Run-seen see step old new (c ∷ commands) [] run = absurd run
Run-seen see step old new (c ∷ commands) (a ∷ answers) run =
    (see run.0, run.1, Run-seen see step run.0 new commands answers run.2)

pub IsAnswered-seen : {S T : Type 0} (see : S → T) (step : T → Command → Answer → T → Type 0)
    (old new : S) (text reported : List ℕ)
    → IsAnswered (λ s c a t. step (see s) c a (see t)) old text new reported
    → IsAnswered step (see old) text (see new) reported
IsAnswered-seen see step old new text reported answered = search (rules, Run-seen)
