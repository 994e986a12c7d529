-- Each cut in a run at a desk was armed.
use Rattle.std.proofs.Common.{◌≡◌, ◌∙◌, Bool, List, [], ◌∷◌, ap, false, not, refl, true, rules}
use Rattle.std.specs.Prelude.{◌&&◌, ◌||◌}
use Rattle.ee_flash.specs.Size.{Size}
use Rattle.ee_interface.specs.Script.Run.{Run}
use Rattle.ee_interface.specs.declared.script.answer.Answer.{Answer}
use Rattle.ee_interface.specs.declared.script.answer.Answer.TheVariants.{Cut, Opened}
use Rattle.ee_interface.specs.declared.script.command.Command.{Command}
use Rattle.ee_interface.specs.declared.script.command.Command.TheVariants.{Write, Read, Forget, Clean, Arm, PowerOn}
use Rattle.ee_replay.specs.ArmedCuts.{CutsAreArmed}
use Rattle.ee_image_store.specs.Machine.{CallStep, Desk, DeskStep, PowerStep, is_arming, is_cut_answer}

-- what a step does to a cut that is to come, where the line arms one or not, and is cut or not
record Arms (arming cut : Bool) (old new : Desk) : Type 0 where
  was_armed : cut ≡ true → old.armed ≡ true
  armed_is : new.armed ≡ ((old.armed && not cut) || arming)

kept : (armed : Bool) → armed ≡ ((armed && true) || false)
kept true = refl
kept false = refl

gone : (armed : Bool) → false ≡ ((armed && false) || false)
gone true = refl
gone false = refl

both : (armed : Bool) → true ≡ ((armed && true) || true)
both true = refl
both false = refl

of_call : (cut : Bool) (size : Size) (old : Desk) (command : Command) (answer : Answer) (new : Desk)
    → CallStep cut size old command answer new → Arms false cut old new
of_call true size old command answer new step = record {
  was_armed = λ e. step.1;
  armed_is = ap (λ (desk : Desk). desk.armed) step.3 ∙ gone old.armed;
}
of_call false size old command answer new step = record {
  was_armed = λ e. absurd (cc e);
  armed_is = ap (λ (desk : Desk). desk.armed) step.1 ∙ kept old.armed;
}

of_power : (old : Desk) (answer : Answer) (new : Desk) → PowerStep old answer new
    → Arms false (is_cut_answer answer) old new
of_power old Opened new step = record {
  was_armed = λ e. absurd (cc e);
  armed_is = ap (λ (desk : Desk). desk.armed) step ∙ kept old.armed;
}
of_power old Cut new step = record {
  was_armed = λ e. step.1;
  armed_is = ap (λ (desk : Desk). desk.armed) step.2 ∙ gone old.armed;
}
of_power old answer new step = absurd step

of_step : (size : Size) (old : Desk) (command : Command) (answer : Answer) (new : Desk)
    → DeskStep size old command answer new → Arms (is_arming command) (is_cut_answer answer) old new
of_step size old (Arm fuse) answer new step = search (rules, both)
of_step size old PowerOn answer new step = of_power old answer new step
of_step size old (Write address value) answer new step =
    of_call (is_cut_answer answer) size old (Write address value) answer new step
of_step size old (Forget address) answer new step =
    of_call (is_cut_answer answer) size old (Forget address) answer new step
of_step size old (Read address) answer new step =
    of_call (is_cut_answer answer) size old (Read address) answer new step
of_step size old Clean answer new step =
    of_call (is_cut_answer answer) size old Clean answer new step

pub each_cut_was_armed : (size : Size) (commands : List Command) (answers : List Answer)
    (old new : Desk)
    → Run (DeskStep size) old commands answers new → CutsAreArmed old.armed commands answers
each_cut_was_armed size [] answers old new run = tt
each_cut_was_armed size (command ∷ commands) [] old new run = tt
each_cut_was_armed size (command ∷ commands) (answer ∷ answers) old new run =
    search (rules, of_step, (each_cut_was_armed size commands answers run.0 new run.2))
