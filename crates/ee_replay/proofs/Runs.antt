-- A run of calls that serve a script is a run of the report machine.
use Rattle.std.proofs.Common.{◌≡◌, ◌∙◌, Bool, Option, Some, None, List, [], ◌∷◌, false, refl, subst, true, rules}
use Rattle.std.proofs.lemmas.List.Elements.{All-cons, All-nil}
use Rattle.std.proofs.lemmas.List.Sums.{sum_by-cons}
use Rattle.std.specs.List.{All}
use Rattle.std.specs.Prelude.{IsSomeAnd, ◌||◌}
use Rattle.ee_flash.specs.Device.{Device}
use Rattle.ee_flash.specs.Size.{Size}
use Rattle.ee_core.specs.Runs.{Call, Follows, IsRun, IsWholeRun, is_cut}
use Rattle.ee_core.specs.State.{state_of}
use Rattle.ee_interface.specs.declared.script.command.Command.{Command}
use Rattle.ee_interface.specs.declared.script.command.Command.TheVariants.{Write, Read, Forget, Clean, Arm, PowerOn}
use Rattle.ee_interface.specs.declared.script.answer.Answer.{Answer}
use Rattle.ee_interface.specs.declared.script.answer.Answer.TheVariants.{Appended, Moved, Full, Spent, Cleaned, Idle, Value, NoValue, Absent, Armed, Opened}
use Rattle.ee_interface.specs.Script.Run.{Run}
use Rattle.ee_image_store.specs.Erases.{ErasesRise, erases_left_by, erases_of_all}
use Rattle.ee_image_store.specs.Machine.{MachineStep, is_arming}
use Rattle.ee_replay.specs.Serving.{UncutLineAnswers, call_of_command, calls_of, is_armed_by, with_call}
use Rattle.ee_image_store.specs.Steps.{Steps}
use Rattle.ee_core.proofs.Public.{no_wear}
use Rattle.ee_replay.proofs.Powering.{state_armed}
use Rattle.ee_image_store.proofs.Public.{as_before, both, by_append, by_clean, by_move, by_wear}

-- ---- one call

-- the machine answers as the call does
pub machine_step : (old new : Device) (command : Command) (answer : Answer)
    → UncutLineAnswers old command answer new → Steps old command answer new
machine_step old new (Write address value) Appended serves = search (rules, by_append)
machine_step old new (Write address value) Moved serves = search (rules, by_move)
machine_step old new (Write address value) Full serves = search (rules, as_before)
machine_step old new (Write address value) Spent serves = search (rules, as_before)
machine_step old new (Forget address) Appended serves = search (rules, by_append)
machine_step old new (Forget address) Moved serves = search (rules, by_move)
machine_step old new (Forget address) Absent serves = search (rules, as_before)
machine_step old new (Forget address) Spent serves = search (rules, as_before)
machine_step old new (Read address) (Value value) serves = search (rules, as_before)
machine_step old new (Read address) NoValue serves = search (rules, as_before)
machine_step old new Clean Cleaned serves = search (rules, by_clean)
machine_step old new Clean Idle serves = search (rules, as_before)
machine_step old new (Arm fuse) Armed serves = search (rules, by_wear, no_wear, state_armed)
machine_step old new PowerOn Opened serves = search (rules, as_before)
machine_step old new command answer serves = absurd serves

-- ---- in none of them power is cut

pub neither : (first rest : Bool) → (first || rest) ≡ false → (first ≡ false) × (rest ≡ false)
neither false rest e = (refl, e)
neither true rest e = absurd (cc e)

uncut_first : (command : Command) (answer : Answer) (calls : List Call)
    → All (λ made. is_cut made ≡ false) calls
    → All (λ made. is_cut made ≡ false) (with_call (call_of_command command answer) calls)
uncut_first (Write address value) Appended calls all =
    All-cons (λ made. is_cut made ≡ false) _ calls refl all
uncut_first (Write address value) Moved calls all =
    All-cons (λ made. is_cut made ≡ false) _ calls refl all
uncut_first (Write address value) Full calls all =
    All-cons (λ made. is_cut made ≡ false) _ calls refl all
uncut_first (Write address value) Spent calls all =
    All-cons (λ made. is_cut made ≡ false) _ calls refl all
uncut_first (Forget address) Appended calls all =
    All-cons (λ made. is_cut made ≡ false) _ calls refl all
uncut_first (Forget address) Moved calls all =
    All-cons (λ made. is_cut made ≡ false) _ calls refl all
uncut_first (Forget address) Absent calls all =
    All-cons (λ made. is_cut made ≡ false) _ calls refl all
uncut_first (Forget address) Spent calls all =
    All-cons (λ made. is_cut made ≡ false) _ calls refl all
uncut_first (Read address) (Value value) calls all =
    All-cons (λ made. is_cut made ≡ false) _ calls refl all
uncut_first (Read address) NoValue calls all =
    All-cons (λ made. is_cut made ≡ false) _ calls refl all
uncut_first Clean Cleaned calls all = All-cons (λ made. is_cut made ≡ false) _ calls refl all
uncut_first Clean Idle calls all = All-cons (λ made. is_cut made ≡ false) _ calls refl all
uncut_first command answer calls all = all

pub uncut : (commands : List Command) (answers : List Answer)
    → All (λ made. is_cut made ≡ false) (calls_of commands answers)
uncut [] answers = All-nil (λ made. is_cut made ≡ false)
uncut (command ∷ commands) [] = All-nil (λ made. is_cut made ≡ false)
uncut (command ∷ commands) (answer ∷ answers) =
    uncut_first command answer (calls_of commands answers) (uncut commands answers)

call_first : (found : Option Call) (calls : List Call) (old mid new : Device)
    → IsSomeAnd found (λ made. Follows made old mid) → IsRun calls mid new
    → IsRun (with_call found calls) old new
call_first None calls old mid new follows run = absurd follows
call_first (Some made) calls old mid new follows run = (mid, follows, run)

-- with what a line did that arms no cut before it
line_first : (command : Command) (answer : Answer) (calls : List Call) (old mid new : Device)
    → is_arming command ≡ false → UncutLineAnswers old command answer mid → IsRun calls mid new
    → IsRun (with_call (call_of_command command answer) calls) old new
line_first (Arm fuse) answer calls old mid new unarmed serves run = absurd (cc unarmed)
line_first PowerOn Opened calls old mid new unarmed serves run =
    subst (λ device. IsRun calls device new) serves run
line_first (Write address value) answer calls old mid new unarmed serves run =
    call_first (call_of_command (Write address value) answer) calls old mid new serves run
line_first (Forget address) answer calls old mid new unarmed serves run =
    call_first (call_of_command (Forget address) answer) calls old mid new serves run
line_first (Read address) answer calls old mid new unarmed serves run =
    call_first (call_of_command (Read address) answer) calls old mid new serves run
line_first Clean answer calls old mid new unarmed serves run =
    call_first (call_of_command Clean answer) calls old mid new serves run
line_first command answer calls old mid new unarmed serves run = absurd serves

-- ---- a run

-- what a run of calls comes to: the machine goes from state to state, the size stays, and each move
-- leaves the pages of a set to be erased
pub record IsMachineRun (old new : Device) (commands : List Command) (answers : List Answer)
    : Type 0 where
  pub run : Run (MachineStep old.size) (state_of old) commands answers (state_of new)
  pub same_size : new.size ≡ old.size
  pub erases : ErasesRise (erases_of_all old.size answers) old new

pub machine_run : (old new : Device) (commands : List Command) (answers : List Answer)
    → Run UncutLineAnswers old commands answers new → IsMachineRun old new commands answers
machine_run old new [] [] run = search (rules, as_before)
machine_run old new [] (answer ∷ answers) run = absurd run
machine_run old new (command ∷ commands) [] run = absurd run
machine_run old new (command ∷ commands) (answer ∷ answers) run =
    let mid = run.0 in
    let here = machine_step old mid command answer run.1 in
    let rest = machine_run mid new commands answers run.2 in
    record {
      run = (
        state_of mid,
        here.step,
        subst
            (λ (size : Size).
            Run (MachineStep size) (state_of mid) commands answers (state_of new))
            here.same_size rest.run,
      );
      same_size = rest.same_size ∙ here.same_size;
      erases =
          both old mid new (erases_left_by old.size answer) (erases_of_all old.size answers)
          (erases_of_all old.size (answer ∷ answers)) here.erases
          (subst (λ (size : Size). ErasesRise (erases_of_all size answers) mid new) here.same_size
          rest.erases) (sum_by-cons (erases_left_by old.size) answer answers);
    }

-- where no line arms a cut it is a run of calls
calls_run : (old new : Device) (commands : List Command) (answers : List Answer)
    → is_armed_by commands ≡ false → Run UncutLineAnswers old commands answers new
    → IsRun (calls_of commands answers) old new
calls_run old new [] [] unarmed run = run
calls_run old new [] (answer ∷ answers) unarmed run = absurd run
calls_run old new (command ∷ commands) [] unarmed run = absurd run
calls_run old new (command ∷ commands) (answer ∷ answers) unarmed run =
    let parts = neither (is_arming command) (is_armed_by commands) unarmed in
    line_first command answer (calls_of commands answers) old run.0 new parts.0 run.1
    (calls_run run.0 new commands answers parts.1 run.2)

pub whole_run : (old new : Device) (commands : List Command) (answers : List Answer)
    → is_armed_by commands ≡ false → Run UncutLineAnswers old commands answers new
    → IsWholeRun (calls_of commands answers) old new
whole_run old new commands answers unarmed run = record {
  run =
      calls_run old new commands answers unarmed run;
  without_cuts = uncut commands answers;
}
