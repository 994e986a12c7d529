-- Where no line is cut, a desk is a store that stays open.
use Rattle.std.proofs.Common.{◌≡◌, ◌∙◌, List, [], ◌∷◌, ap, false, refl, subst, true, rules}
use Rattle.ee_flash.specs.Device.{Device}
use Rattle.ee_core.specs.Points.{Point}
use Rattle.ee_interface.specs.Script.Run.{Run}
use Rattle.ee_interface.specs.declared.script.answer.Answer.{Answer}
use Rattle.ee_interface.specs.declared.script.answer.Answer.TheVariants.{Appended, Moved, Full, Spent, Cleaned, Idle, Value, NoValue, Absent, Armed, Cut, Opened}
use Rattle.ee_interface.specs.declared.script.command.Command.{Command}
use Rattle.ee_interface.specs.declared.script.command.Command.TheVariants.{Write, Read, Forget, Clean, Arm, PowerOn}
use Rattle.ee_image_store.specs.Machine.{is_cut_answer, was_cut}
use Rattle.ee_replay.specs.Serving.{LineAnswers, UncutLineAnswers, serving_on}
use Rattle.ee_replay.proofs.Runs.{neither}

-- a line that is served by a store that is open, and leaves it open
pub record IsServedOpen (old : Device) (command : Command) (answer : Answer) (new : Point)
    : Type 0 where
  pub serves : UncutLineAnswers old command answer new.device
  pub still : new.serving ≡ true

pub served_open : (old : Device) (command : Command) (answer : Answer) (new : Point)
    → is_cut_answer answer ≡ false → LineAnswers (serving_on old) command answer new
    → IsServedOpen old command answer new
served_open old (Arm fuse) Armed new plain attends = search rules
served_open old (Arm fuse) answer new plain attends = absurd (cc (attends.0))
served_open old PowerOn Opened new plain attends = record {
  serves =
      ap (λ (point : Point). point.device) attends;
  still = ap (λ (point : Point). point.serving) attends;
}
served_open old (Write address value) Appended new plain attends =
    record { serves = attends.0; still = attends.1 }
served_open old (Write address value) Moved new plain attends =
    record { serves = attends.0; still = attends.1 }
served_open old (Write address value) Full new plain attends =
    record { serves = attends.0; still = attends.1 }
served_open old (Write address value) Spent new plain attends =
    record { serves = attends.0; still = attends.1 }
served_open old (Forget address) Appended new plain attends =
    record { serves = attends.0; still = attends.1 }
served_open old (Forget address) Moved new plain attends =
    record { serves = attends.0; still = attends.1 }
served_open old (Forget address) Absent new plain attends =
    record { serves = attends.0; still = attends.1 }
served_open old (Forget address) Spent new plain attends =
    record { serves = attends.0; still = attends.1 }
served_open old (Read address) (Value value) new plain attends =
    record { serves = attends.0; still = attends.1 }
served_open old (Read address) NoValue new plain attends =
    record { serves = attends.0; still = attends.1 }
served_open old Clean Cleaned new plain attends = record { serves = attends.0; still = attends.1 }
served_open old Clean Idle new plain attends = record { serves = attends.0; still = attends.1 }
served_open old (Write address value) Cut new plain attends = absurd (cc plain)
served_open old (Forget address) Cut new plain attends = absurd (cc plain)
served_open old Clean Cut new plain attends = absurd (cc plain)
served_open old command answer new plain attends = absurd attends

-- a whole run
pub record IsRunOpen (old : Device) (commands : List Command) (answers : List Answer) (new : Point)
    : Type 0 where
  pub run : Run UncutLineAnswers old commands answers new.device
  pub still : new.serving ≡ true

-- a point at which a store is open
pub at_open : (point : Point) → point.serving ≡ true → point ≡ serving_on point.device
at_open point still = rw still refl

run_from : (device : Device) (old new : Point) (commands : List Command) (answers : List Answer)
    → was_cut answers ≡ false → old ≡ serving_on device
    → Run LineAnswers old commands answers new → IsRunOpen device commands answers new
run_from device old new [] [] plain at run =
    let there = run ∙ at in
    record {
      run = ap (λ (point : Point). point.device) there;
      still = ap (λ (point : Point). point.serving) there;
    }
run_from device old new [] (answer ∷ answers) plain at run = absurd run
run_from device old new (command ∷ commands) [] plain at run = absurd run
run_from device old new (command ∷ commands) (answer ∷ answers) plain at run =
    let parts = neither (is_cut_answer answer) (was_cut answers) plain in
    let mid = run.0 in
    let here =
    served_open device command answer mid parts.0
    (subst (λ (point : Point). LineAnswers point command answer mid) at run.1) in
    let rest =
    run_from mid.device run.0 new commands answers parts.1 (at_open mid here.still) run.2 in
    record { run = (mid.device, here.serves, rest.run); still = rest.still }

pub run_open : (device : Device) (new : Point) (commands : List Command) (answers : List Answer)
    → was_cut answers ≡ false → Run LineAnswers (serving_on device) commands answers new
    → IsRunOpen device commands answers new
run_open device new commands answers plain run =
    run_from device (serving_on device) new commands answers plain refl run
