-- How often pages are erased by a script that is not cut.
use Rattle.std.proofs.Common.{◌≡◌, ℕ, ◌+◌, Bool, true, false, cond, Ok, Err, Option, Some, None, List, [], ◌∷◌, length, refl, subst, arith, rules}
use Rattle.ee_flash.specs.Memory.{with_fuse}
use Rattle.ee_flash.specs.declared.fuse.Fuse.{Fuse}
use Rattle.ee_flash.specs.Device.{Device}
use Rattle.ee_pages.specs.Sets.{live_of, other}
use Rattle.ee_pages.specs.declared.side.Side.{Side}
use Rattle.ee_pages.specs.declared.side.Side.TheVariants.{First, Second}
use Rattle.ee_core.specs.Points.{Point}
use Rattle.ee_core.specs.Openings.{Opens}
use Rattle.ee_core.specs.Runs.{Wrote, Forgot, DidRead, WearsAtMost}
use Rattle.ee_core.specs.Runs as call
use Rattle.ee_core.specs.State.{not_blank_in, pending_pages_in}
use Rattle.ee_core.specs.declared.variables.ForgetFault.TheVariants as forgetting
use Rattle.ee_core.specs.declared.variables.WriteFault.TheVariants as fault
use Rattle.ee_core.specs.declared.variables.Written.TheVariants as written
use Rattle.ee_core.proofs.Public.{Aged, Ages, ages, none_more, one_more, stays, wears_at_most}
use Rattle.ee_interface.specs.Script.Run.{Run}
use Rattle.ee_interface.specs.declared.script.answer.Answer.{Answer}
use Rattle.ee_interface.specs.declared.script.answer.Answer.TheVariants.{Appended, Moved, Full, Spent, Cleaned, Idle, Value, NoValue, Absent, Armed, Opened}
use Rattle.ee_interface.specs.declared.script.command.Command.{Command}
use Rattle.ee_interface.specs.declared.script.command.Command.TheVariants.{Write, Read, Forget, Clean, Arm, PowerOn}
use Rattle.ee_image_store.specs.Machine.{was_cut}
use Rattle.ee_image_store.specs.Trace.{moved_at, moves}
use Rattle.ee_replay.specs.Lines.{answers_of, point_behind}
use Rattle.ee_replay.specs.Serving.{LineAnswers, IsMade, UncutLineAnswers, serving_on}
use Rattle.ee_replay.proofs.Runs.{machine_run, whole_run}
use Rattle.ee_replay.proofs.UncutRuns.{run_open}

-- ---- how many answers are `moved`

is_move : Answer → Bool
is_move Moved = true
is_move answer = false

moved_later : (n m : ℕ) (answers : List Answer)
    → length (moved_at n answers) ≡ length (moved_at m answers)
moved_later n m [] = refl
moved_later n m (Appended ∷ answers) = moved_later (n + 1) (m + 1) answers
moved_later n m (Moved ∷ answers) =
    let more = moved_later (n + 1) (m + 1) answers in omega (arith, more)
moved_later n m (answer ∷ answers) = moved_later n m answers

moves_more : (answer : Answer) (answers : List Answer)
    → moves (answer ∷ answers) ≡ cond (is_move answer) 1 0 + moves answers
unfolding is_move
moves_more Appended answers = let later = moved_later 1 0 answers in omega (arith, later)
moves_more Moved answers = let later = moved_later 1 0 answers in omega (arith, later)
moves_more answer answers = omega arith

-- ---- lines

named_armed : (fuse : Fuse) (device : Device) (side : Side)
    → not_blank_in side (with_fuse fuse device) ≡ not_blank_in side device
named_armed fuse device First = refl
named_armed fuse device Second = refl

pending_armed : (fuse : Fuse) (device : Device) (live : Option (Side × ℕ))
    → pending_pages_in (with_fuse fuse device) live ≡ pending_pages_in device live
pending_armed fuse device None = refl
pending_armed fuse device (Some live) = named_armed fuse device (other live.0)

line_ages : (old new : Device) (command : Command) (answer : Answer)
    → UncutLineAnswers old command answer new → Ages (is_move answer) old new
unfolding is_move
line_ages old new (Write address value) Appended serves =
    ages (Wrote address value (Ok written.Appended)) old new refl serves
line_ages old new (Write address value) Moved serves =
    ages (Wrote address value (Ok written.Moved)) old new refl serves
line_ages old new (Write address value) Full serves =
    ages (Wrote address value (Err fault.Full)) old new refl serves
line_ages old new (Write address value) Spent serves =
    ages (Wrote address value (Err fault.Spent)) old new refl serves
line_ages old new (Forget address) Appended serves =
    ages (Forgot address (Ok written.Appended)) old new refl serves
line_ages old new (Forget address) Moved serves =
    ages (Forgot address (Ok written.Moved)) old new refl serves
line_ages old new (Forget address) Absent serves =
    ages (Forgot address (Err forgetting.Absent)) old new refl serves
line_ages old new (Forget address) Spent serves =
    ages (Forgot address (Err forgetting.Spent)) old new refl serves
line_ages old new (Read address) (Value value) serves =
    ages (DidRead address (Ok (Some value))) old new refl serves
line_ages old new (Read address) NoValue serves =
    ages (DidRead address (Ok None)) old new refl serves
line_ages old new Clean Cleaned serves = ages (call.Cleaned (Ok true)) old new refl serves
line_ages old new Clean Idle serves = ages (call.Cleaned (Ok false)) old new refl serves
line_ages old new (Arm fuse) Armed serves =
    rw serves (stays old (with_fuse fuse old) refl refl (pending_armed fuse old (live_of old)) refl)
line_ages old new PowerOn Opened serves = rw serves (stays old old refl refl refl refl)
line_ages old new command answer serves = absurd serves

lines_age : (old new : Device) (commands : List Command) (answers : List Answer)
    → Run UncutLineAnswers old commands answers new → Aged (moves answers) old new
lines_age old new [] [] run = rw run (none_more old)
lines_age old new [] (answer ∷ answers) run = absurd run
lines_age old new (command ∷ commands) [] run = absurd run
lines_age old new (command ∷ commands) (answer ∷ answers) run = search (
  rules,
  is_move,
  line_ages,
  moves_more,
  one_more,
  (lines_age run.0 new commands answers run.2),
)

-- ---- a script

-- on a store that is open
lines_wear : (old new : Device) (commands : List Command) (answers : List Answer)
    → Run UncutLineAnswers old commands answers new → (page : ℕ)
    → WearsAtMost (moves answers) page old new
lines_wear old new commands answers run =
    λ page. wears_at_most (moves answers) page old new (lines_age old new commands answers run)

-- all that the lines made of it
pub made_of : (old : Device) (last : Point) (commands : List Command) (answers : List Answer)
    → Run LineAnswers (serving_on old) commands answers last
    → answers ≡ answers_of commands (serving_on old)
    → last ≡ point_behind commands (serving_on old) → IsMade old commands answers last
made_of old last commands answers run said left = record {
  lines = run;
  answers_are = said;
  point_is = left;
  erases =
      λ plain. (machine_run old last.device commands answers
      (run_open old last commands answers plain run).run).erases;
  wears =
      λ plain. lines_wear old last.device commands answers
      (run_open old last commands answers plain run).run;
  calls =
      λ plain unarmed. whole_run old last.device commands answers unarmed
      (run_open old last commands answers plain run).run;
}

-- on the store that was opened of a device
pub wears_since_opening : (old store : Device) (last : Point) (commands : List Command)
    (answers : List Answer)
    → Opens old store → was_cut answers ≡ false
    → Run LineAnswers (serving_on store) commands answers last → (page : ℕ)
    → WearsAtMost (moves answers) page old last.device
wears_since_opening old store last commands answers opens plain run = λ page.
    let end = last.device in
    let later =
    lines_age store end commands answers (run_open store last commands answers plain run).run in
    let opening =
    stays old store opens.goes_on.same_size opens.live_is opens.same_pending opens.no_wear in
    let none : 0 + moves answers ≡ moves answers = omega arith in
    wears_at_most (moves answers) page old end
    (subst (λ (count : ℕ). Aged count old end) none
    (one_more false (moves answers) old store end opening later))
