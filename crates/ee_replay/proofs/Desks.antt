-- What a line does at a desk is a step of the report machine.
use Rattle.std.proofs.Common.{◌≡◌, ◌∙◌, ◌⊎◌, ◌+◌, arith, ℕ, Bool, Option, Some, None, Ok, Err, List, [], ◌∷◌, ap, false, inl, inr, option_map, refl, subst, sym, true, add-one, rules}
use Rattle.ee_flash.specs.Device.{Device}
use Rattle.ee_flash.specs.Power.{GoesOn, IsCut}
use Rattle.ee_flash.specs.Size.{Size}
use Rattle.ee_pages.specs.Meaning.{Change, Put}
use Rattle.ee_pages.specs.Meaning as meaning
use Rattle.ee_core.proofs.Public.{runs_go_on_lem}
use Rattle.ee_core.specs.Changes.{IsCutChange}
use Rattle.ee_core.specs.Points.{Point, with_power_on}
use Rattle.ee_core.specs.Runs.{Call, Cleaned as DidClean, DidRead, Follows, Forgot, Wrote, is_cut}
use Rattle.ee_core.specs.State.{State, state_of}
use Rattle.ee_core.specs.declared.variables.ForgetFault.TheVariants as forgetting
use Rattle.ee_core.specs.declared.variables.WriteFault.TheVariants as fault
use Rattle.ee_core.specs.declared.variables.Written.TheVariants as written
use Rattle.ee_interface.specs.declared.script.command.Command.{Command}
use Rattle.ee_interface.specs.declared.script.command.Command.TheVariants.{Write, Read, Forget, Clean, Arm, PowerOn}
use Rattle.ee_interface.specs.declared.script.answer.Answer.{Answer}
use Rattle.ee_interface.specs.declared.script.answer.Answer.TheVariants.{Appended, Moved, Full, Spent, Cleaned, Idle, Value, NoValue, Absent, Cut, Off, Opened}
use Rattle.ee_interface.specs.Script.Run.{Run}
use Rattle.ee_image_store.specs.Machine.{CallStep, CutStep, CutsChange, DeskStep, is_cut_answer}
use Rattle.ee_replay.specs.Serving.{CallAnswers, LineAnswers, PowerAnswers, UncutLineAnswers, desk_of, is_armed}
use Rattle.ee_replay.proofs.Powering.{state_armed, state_powered}
use Rattle.ee_replay.proofs.Runs.{machine_step}

-- ---- how often a cut may come

-- one may come at the most
abbrev pub AtMostOne : Device → Type 0
AtMostOne device = (device.cuts_left ≡ Some 0) ⊎ (device.cuts_left ≡ Some 1)

at_most_still : (old new : Device) → new.cuts_left ≡ old.cuts_left → AtMostOne old → AtMostOne new
at_most_still old new same (inl none) = inl (same ∙ none)
at_most_still old new same (inr one) = inr (same ∙ one)

-- where one is taken, one was to come, and none is
taken : (before after : Option ℕ) → before ≡ option_map (λ left. left + 1) after
    → (before ≡ Some 0) ⊎ (before ≡ Some 1) → (is_armed before ≡ true) × (after ≡ Some 0)
taken before None e (inl none) = absurd (cc (e, none))
taken before None e (inr one) = absurd (cc (e, one))
taken before (Some left) e (inl none) = absurd (cc (e, none, add-one left))
taken before (Some left) e (inr one) =
    let same : left + 1 ≡ 1 = cc (e, one) in (rw one refl, ap Some (omega arith))

goes_on : (made : Call) (old new : Device) → Follows made old new → is_cut made ≡ false
    → GoesOn old new
goes_on made old new follows whole = search (rules, runs_go_on_lem, whole)

-- ---- one line

-- a call, or what stands in its place, is a step of the machine
record IsCallMade (serving : Bool) (old : Device) (command : Command) (answer : Answer)
    (new : Point) : Type 0 where
  step : CallStep (is_cut_answer answer) old.size
      (desk_of (record { serving = serving; device = old })) command answer (desk_of new)
  same_size : new.device.size ≡ old.size
  at_most : AtMostOne new.device

-- a line is a step of the machine
pub record IsLineMade (old : Point) (command : Command) (answer : Answer) (new : Point)
    : Type 0 where
  pub step : DeskStep old.device.size (desk_of old) command answer (desk_of new)
  pub same_size : new.device.size ≡ old.device.size
  pub at_most : AtMostOne new.device

whole : (old : Device) (command : Command) (answer : Answer) (new : Point) (made : Call)
    → UncutLineAnswers old command answer new.device → Follows made old new.device
    → is_cut made ≡ false → is_cut_answer answer ≡ false → new.serving ≡ true → AtMostOne old
    → IsCallMade true old command answer new
whole old command answer new made serves follows uncut plain still most =
    search (rules, at_most_still, goes_on, machine_step)

cut_change : (old : Device) (change : Change) (new : Device) → IsCutChange old change new
    → CutsChange old.size (state_of old) change (state_of new)
cut_change old change new cut = record {
  accepted = cut.proceeds.accepted;
  within = cut.within;
  free = cut.free;
  all_used = cut.all_used;
}

-- what is so of each cut in a call of an open store
record IsCutHere (old : Device) (new : Point) : Type 0 where
  armed : is_armed old.cuts_left ≡ true
  desk : desk_of new ≡ record { state = state_of new.device; serving = false; armed = false }
  at_most : AtMostOne new.device

cut_here : (old : Device) (new : Point) → IsCut old new.device → new.serving ≡ false → AtMostOne old
    → IsCutHere old new
cut_here old new cut off most = search (rules, taken)

cut_made : (old : Device) (command : Command) (new : Point)
    → CutStep old.size (state_of old) command (state_of new.device) → IsCut old new.device
    → new.serving ≡ false → AtMostOne old → IsCallMade true old command Cut new
cut_made old command new step cut off most =
    let here = cut_here old new cut off most in
    record {
      step = (refl, here.armed, step, here.desk);
      same_size = cut.same_size;
      at_most = here.at_most;
    }

asked_on : (old : Device) (command : Command) (answer : Answer) (new : Point) → AtMostOne old
    → CallAnswers true old command answer new → IsCallMade true old command answer new
asked_on old (Write address value) Appended new most asks =
    whole old (Write address value) Appended new (Wrote address value (Ok written.Appended)) asks.0
    asks.0 refl refl asks.1 most
asked_on old (Write address value) Moved new most asks =
    whole old (Write address value) Moved new (Wrote address value (Ok written.Moved)) asks.0 asks.0
    refl refl asks.1 most
asked_on old (Write address value) Full new most asks =
    whole old (Write address value) Full new (Wrote address value (Err fault.Full)) asks.0 asks.0
    refl refl asks.1 most
asked_on old (Write address value) Spent new most asks =
    whole old (Write address value) Spent new (Wrote address value (Err fault.Spent)) asks.0 asks.0
    refl refl asks.1 most
asked_on old (Write address value) Cut new most asks =
    cut_made old (Write address value) new (cut_change old (Put address value) new.device asks.0)
    asks.0.cut asks.1 most
asked_on old (Forget address) Appended new most asks =
    whole old (Forget address) Appended new (Forgot address (Ok written.Appended)) asks.0 asks.0
    refl refl asks.1 most
asked_on old (Forget address) Moved new most asks =
    whole old (Forget address) Moved new (Forgot address (Ok written.Moved)) asks.0 asks.0 refl refl
    asks.1 most
asked_on old (Forget address) Absent new most asks =
    whole old (Forget address) Absent new (Forgot address (Err forgetting.Absent)) asks.0 asks.0
    refl refl asks.1 most
asked_on old (Forget address) Spent new most asks =
    whole old (Forget address) Spent new (Forgot address (Err forgetting.Spent)) asks.0 asks.0 refl
    refl asks.1 most
asked_on old (Forget address) Cut new most asks =
    cut_made old (Forget address) new (cut_change old (meaning.Forget address) new.device asks.0)
    asks.0.cut asks.1 most
asked_on old (Read address) (Value value) new most asks =
    whole old (Read address) (Value value) new (DidRead address (Ok (Some value))) asks.0 asks.0
    refl refl asks.1 most
asked_on old (Read address) NoValue new most asks =
    whole old (Read address) NoValue new (DidRead address (Ok None)) asks.0 asks.0 refl refl asks.1
    most
asked_on old Clean Cleaned new most asks =
    whole old Clean Cleaned new (DidClean (Ok true)) asks.0 asks.0 refl refl asks.1 most
asked_on old Clean Idle new most asks =
    whole old Clean Idle new (DidClean (Ok false)) asks.0 asks.0 refl refl asks.1 most
asked_on old Clean Cut new most asks =
    cut_made old Clean new (asks.0.some, asks.0.state_is) asks.0.cut asks.1 most
asked_on old (Arm fuse) Cut new most asks = absurd asks
asked_on old PowerOn Cut new most asks = absurd asks
asked_on old command answer new most asks = absurd asks

asked_off : (old : Device) (command : Command) (answer : Answer) (new : Point) → AtMostOne old
    → CallAnswers false old command answer new → IsCallMade false old command answer new
asked_off old command Off new most asks = search (rules, at_most_still)
asked_off old command answer new most asks = absurd asks

asked : (serving : Bool) (old : Device) (command : Command) (answer : Answer) (new : Point)
    → AtMostOne old → CallAnswers serving old command answer new
    → IsCallMade serving old command answer new
asked true old command answer new most asks = asked_on old command answer new most asks
asked false old command answer new most asks = asked_off old command answer new most asks

-- a desk by its parts
desk_is : (point : Point) (state : State) (serving : Bool) (left : Option ℕ)
    → state_of point.device ≡ state → point.serving ≡ serving → point.device.cuts_left ≡ left
    → desk_of point ≡ record { state = state; serving = serving; armed = is_armed left }
desk_is point state serving left says still kept = cc

-- power that comes on
power_made : (serving : Bool) (old : Device) (answer : Answer) (new : Point) → AtMostOne old
    → PowerAnswers serving old answer new
    → IsLineMade (record { serving = serving; device = old }) PowerOn answer new
power_made true old Opened new most powers =
    subst
    (λ (point : Point).
    IsLineMade (record { serving = true; device = old }) PowerOn Opened point) (sym powers)
    (record { step = refl; same_size = refl; at_most = most })
power_made false old Opened new most powers =
    let kept = powers.0.goes_on in
    let step =
    desk_is new (state_of old) true old.cuts_left (powers.0.state_is ∙ state_powered old)
    powers.1 kept.same_cuts_left in
    record {
      step = step;
      same_size = kept.same_size;
      at_most = at_most_still old new.device kept.same_cuts_left most;
    }
power_made false old Cut new most powers =
    let here = cut_here (with_power_on old) new powers.0.cut powers.1 most in
    let desk =
    here.desk
    ∙ ap (λ (state : State). record { state = state; serving = false; armed = false })
    (powers.0.state_is ∙ state_powered old) in
    record {
      step = (refl, here.armed, desk);
      same_size = powers.0.cut.same_size;
      at_most = here.at_most;
    }
power_made serving old answer new most powers = absurd powers

pub line_made : (old : Point) (command : Command) (answer : Answer) (new : Point)
    → AtMostOne old.device → LineAnswers old command answer new
    → IsLineMade old command answer new
line_made old (Arm fuse) answer new most attends = search (rules, state_armed)
line_made old PowerOn answer new most attends =
    power_made old.serving old.device answer new most attends
line_made old (Write address value) answer new most attends =
    let made =
    asked old.serving old.device (Write address value) answer new most attends in
    record { step = made.step; same_size = made.same_size; at_most = made.at_most }
line_made old (Forget address) answer new most attends =
    let made =
    asked old.serving old.device (Forget address) answer new most attends in
    record { step = made.step; same_size = made.same_size; at_most = made.at_most }
line_made old (Read address) answer new most attends =
    let made =
    asked old.serving old.device (Read address) answer new most attends in
    record { step = made.step; same_size = made.same_size; at_most = made.at_most }
line_made old Clean answer new most attends =
    let made = asked old.serving old.device Clean answer new most attends in
    record { step = made.step; same_size = made.same_size; at_most = made.at_most }

-- ---- a run

pub record IsDeskRun (old : Point) (commands : List Command) (answers : List Answer) (new : Point)
    : Type 0 where
  pub run : Run (DeskStep old.device.size) (desk_of old) commands answers (desk_of new)
  pub same_size : new.device.size ≡ old.device.size

pub desk_run : (old new : Point) (commands : List Command) (answers : List Answer)
    → AtMostOne old.device → Run LineAnswers old commands answers new
    → IsDeskRun old commands answers new
desk_run old new [] [] most run = record {
  run = ap (λ (point : Point). desk_of point) run;
  same_size = ap (λ (point : Point). point.device.size) run;
}
desk_run old new [] (answer ∷ answers) most run = absurd run
desk_run old new (command ∷ commands) [] most run = absurd run
desk_run old new (command ∷ commands) (answer ∷ answers) most run =
    let mid = run.0 in
    let here = line_made old command answer run.0 most run.1 in
    let rest = desk_run run.0 new commands answers here.at_most run.2 in
    record {
      run = (
        desk_of mid,
        here.step,
        subst
            (λ (size : Size).
            Run (DeskStep size) (desk_of mid) commands answers (desk_of new))
            here.same_size rest.run,
      );
      same_size = rest.same_size ∙ here.same_size;
    }
