-- With the fuse that is known, what a line is answered and what it leaves is a function of the
-- point before it.
use Rattle.std.proofs.Common.{◌≡◌, ◌≢◌, ◌<◌, ℕ, Bool, cond, Option, Some, None, List, [], ◌∷◌, ap, arith, false, refl, sym, subst, true, ◌∙◌}
use Rattle.std.specs.Prelude.{◌&&◌, ◌==◌, nat_lt, is_some, not}
use Rattle.std.proofs.lemmas.Bool.{eq-eqb, eqb-true, lt-ltb, ltb-true, ne_eqb, true≢false}
use Rattle.ee_flash.specs.Device.{Device, IsOn}
use Rattle.ee_flash.specs.Laws.{after_steps}
use Rattle.ee_flash.specs.Step.{Step}
use Rattle.ee_flash.specs.Taking.{Completes, HasFuse, IsCutAmong}
use Rattle.ee_flash.proofs.Public.{completed_by_fuse, cut_by_fuse}
use Rattle.ee_pages.specs.Meaning.{Change, Put, live_in}
use Rattle.ee_pages.specs.Meaning as meaning
use Rattle.ee_core.specs.Changes.{Appends, IsAccepted, IsFull, IsSpent, Moves, greatest_generation}
use Rattle.ee_core.specs.Points.{Point, open_point, with_power_on}
use Rattle.ee_core.specs.State.{State, capacity, state_of}
use Rattle.ee_core.specs.StepLists.{steps_of_append, steps_of_making, steps_of_open, steps_of_transfer}
use Rattle.ee_interface.specs.declared.script.command.Command.{Command}
use Rattle.ee_interface.specs.declared.script.command.Command.TheVariants.{Write, Read, Forget, Clean, Arm, PowerOn}
use Rattle.ee_interface.specs.declared.script.answer.Answer.{Answer}
use Rattle.ee_interface.specs.declared.script.answer.Answer.TheVariants.{Appended, Moved, Full, Spent, Cleaned, Idle, Value, NoValue, Absent, Cut, Off, Opened}
use Rattle.ee_interface.specs.Script.Run.{Run}
use Rattle.ee_replay.specs.Lines.{answer_at_once, answer_behind, answer_called, answer_given, answer_of, answers_of, calling_answer, device_called, device_left, device_opened, finds_no_room, is_spent, opening_answer, point_after, point_behind, point_called, point_opened, read_answer, steps_of_command}
use Rattle.ee_replay.specs.Serving.{CallAnswers, LineAnswers, Noted, LineIsNoted, PowerAnswers, notes_after, notes_behind}

-- ---- refusals as tests

both_true : (a b : Bool) → (a && b) ≡ true → (a ≡ true) × (b ≡ true)
both_true true true e = (refl, refl)
both_true true false e = absurd (true≢false (sym e))
both_true false b e = absurd (true≢false (sym e))

none_is : (found : Option ℕ) → not (is_some found) ≡ true → found ≡ None
none_is None e = refl
none_is (Some n) e = absurd (true≢false (sym e))

some_is : (found : Option ℕ) → found ≢ None → is_some found ≡ true
some_is None never = absurd (never refl)
some_is (Some n) never = refl

false_from : (test : Bool) → (test ≡ true → ⊥) → test ≡ false
false_from true never = absurd (never refl)
false_from false never = refl

module _ (slots : ℕ) (state : State) where
  full_is : (address : ℕ) → IsFull slots state address → finds_no_room slots state address ≡ true
  full_is address full =
      ap (λ found. not (is_some found) && (live_in state.map == slots)) full.new_address
      ∙ eq-eqb (live_in state.map) slots full.all_live

  full_not : (address : ℕ) → ¬ IsFull slots state address
      → finds_no_room slots state address ≡ false
  full_not address room =
      false_from (finds_no_room slots state address)
      (λ is. let parts =
      both_true (not (is_some (state.map address))) (live_in state.map == slots) is in
      room
      (record {
        new_address = none_is (state.map address) parts.0;
        all_live = eqb-true (live_in state.map) slots parts.1;
      }))

  spent_is : IsSpent slots state → is_spent slots state ≡ true
  spent_is spent =
      ap (λ b. b && (state.generation == greatest_generation))
      (eq-eqb state.fill slots spent.all_used)
      ∙ eq-eqb state.generation greatest_generation spent.last_generation

  spent_not : ¬ IsSpent slots state → is_spent slots state ≡ false
  spent_not left =
      false_from (is_spent slots state)
      (λ is. let parts =
      both_true (state.fill == slots) (state.generation == greatest_generation) is in
      left
      (record {
        all_used = eqb-true state.fill slots parts.0;
        last_generation = eqb-true state.generation greatest_generation parts.1;
      }))

  -- ---- what is answered at once

  write_full : (address value : ℕ) → IsFull slots state address
      → answer_at_once (Write address value) slots state ≡ Some Full
  write_full address value full =
      ap (λ b. cond b (Some Full) (cond (is_spent slots state) (Some Spent) None))
      (full_is address full)

  write_spent : (address value : ℕ) → ¬ IsFull slots state address → IsSpent slots state
      → answer_at_once (Write address value) slots state ≡ Some Spent
  write_spent address value room spent =
      ap (λ b. cond b (Some Full) (cond (is_spent slots state) (Some Spent) None))
      (full_not address room)
      ∙ ap (λ b. cond b (Some Spent) None) (spent_is spent)

  write_goes : (address value : ℕ) → IsAccepted slots state (Put address value ∷ [])
      → answer_at_once (Write address value) slots state ≡ None
  write_goes address value accepted =
      ap (λ b. cond b (Some Full) (cond (is_spent slots state) (Some Spent) None))
      (full_not address accepted.has_place)
      ∙ ap (λ b. cond b (Some Spent) None) (spent_not accepted.not_spent)

  forget_absent : (address : ℕ) → state.map address ≡ None
      → answer_at_once (Forget address) slots state ≡ Some Absent
  forget_absent address none =
      ap
      (λ found. cond (is_some found) (cond (is_spent slots state) (Some Spent) None) (Some Absent))
      none

  forget_spent : (address : ℕ) → state.map address ≢ None → IsSpent slots state
      → answer_at_once (Forget address) slots state ≡ Some Spent
  forget_spent address some spent =
      ap (λ b. cond b (cond (is_spent slots state) (Some Spent) None) (Some Absent))
      (some_is (state.map address) some)
      ∙ ap (λ b. cond b (Some Spent) None) (spent_is spent)

  forget_goes : (address : ℕ) → IsAccepted slots state (meaning.Forget address ∷ [])
      → answer_at_once (Forget address) slots state ≡ None
  forget_goes address accepted =
      ap (λ b. cond b (cond (is_spent slots state) (Some Spent) None) (Some Absent))
      (some_is (state.map address) accepted.has_place)
      ∙ ap (λ b. cond b (Some Spent) None) (spent_not accepted.not_spent)

  none_free : state.fill ≡ slots → nat_lt state.fill slots ≡ false
  none_free used =
      false_from (nat_lt state.fill slots)
      (λ is. let below = ltb-true state.fill slots is in absurd (omega (arith, below, used)))

  appends_behind : state.fill < slots → cond (nat_lt state.fill slots) Appended Moved ≡ Appended
  appends_behind free = ap (λ b. cond b Appended Moved) (lt-ltb state.fill slots free)

  moves_behind : state.fill ≡ slots → cond (nat_lt state.fill slots) Appended Moved ≡ Moved
  moves_behind used = ap (λ b. cond b Appended Moved) (none_free used)

  idle_is : state.pending ≡ 0 → answer_at_once Clean slots state ≡ Some Idle
  idle_is none = ap (λ b. cond b (Some Idle) None) (eq-eqb state.pending 0 none)

  clean_goes : 0 < state.pending → answer_at_once Clean slots state ≡ None
  clean_goes some =
      ap (λ b. cond b (Some Idle) None) (ne_eqb state.pending 0 (λ none. omega (arith, some, none)))

-- ---- the steps of a change

module _ (change : Change) (old : Device) where
  abbrev free : Bool
  free = nat_lt (state_of old).fill (capacity old)

  abbrev by_free : Bool → List Step
  by_free b = cond b (steps_of_append change old) (steps_of_transfer (change ∷ []) old)

  appended_steps : (new : Device) → Appends old change new
      → Completes (steps_of_making (change ∷ []) old) old new
  appended_steps new appends =
      subst (λ steps. Completes steps old new)
      (sym (ap by_free (lt-ltb (state_of old).fill (capacity old) appends.free))) appends.steps

  moved_steps : (new : Device) → Moves old (change ∷ []) new
      → Completes (steps_of_making (change ∷ []) old) old new
  moved_steps new moves =
      subst (λ steps. Completes steps old new)
      (sym (ap by_free (none_free (capacity old) (state_of old) moves.needed))) moves.steps

-- ---- a call of an open store

point_is : (new : Point) (device : Device) → new.serving ≡ device.on → new.device ≡ device
    → new ≡ open_point device
point_is new device still same =
    ap (λ (on : Bool). record { serving = on; device = new.device }) still
    ∙ ap (λ (left : Device). record { serving = device.on; device = left }) same

record IsCallDecided (command : Command) (old : Device) (answer : Answer) (new : Point)
    : Type 0 where
  said : answer ≡ answer_called command old
  left : new ≡ open_point (device_called command old)

module _ (command : Command) (old : Device) (on : IsOn old) where
  abbrev once : Option Answer
  once = answer_at_once command (capacity old) (state_of old)

  abbrev steps : List Step
  steps = steps_of_command command old

  abbrev whole : Answer
  whole = answer_behind command (capacity old) (state_of old)

  at_once : (answer : Answer) (new : Point) → once ≡ Some answer → new.device ≡ old
      → new.serving ≡ true → IsCallDecided command old answer new
  at_once answer new is same still =
      let kept : device_called command old ≡ old = ap (λ one. device_left one steps old) is in
      record {
        said = sym (ap (λ one. answer_given one whole (device_called command old)) is);
        left = point_is new (device_called command old)
            (still ∙ sym on ∙ ap (λ (device : Device). device.on) (sym kept)) (same ∙ sym kept);
      }

  module _ (none : once ≡ None) (fused : HasFuse old) where
    left_is : device_called command old ≡ after_steps steps old
    left_is = ap (λ one. device_left one steps old) none

    said_is : (now : Bool) → (device_called command old).on ≡ now
        → answer_called command old ≡ cond now whole Cut
    said_is now is =
        ap (λ one. answer_given one whole (device_called command old)) none
        ∙ ap (λ b. cond b whole Cut) is

    all_done : (answer : Answer) (new : Point) → whole ≡ answer → HasFuse new.device
        → Completes steps old new.device → new.serving ≡ true → IsCallDecided command old answer new
    all_done answer new says fused_new taken still =
        let by = completed_by_fuse steps old new.device fused fused_new on taken in
        let same : new.device ≡ device_called command old = by.0 ∙ sym left_is in
        let still_on = ap (λ (device : Device). device.on) (sym same) ∙ by.1 in
        record {
          said = sym (said_is true still_on ∙ says);
          left = point_is new (device_called command old) (still ∙ sym still_on) same;
        }

    was_cut_in : (new : Point) → IsCutAmong steps old new.device → new.serving ≡ false
        → IsCallDecided command old Cut new
    was_cut_in new cut closed =
        let by = cut_by_fuse steps old new.device fused on cut in
        let same : new.device ≡ device_called command old = by.0 ∙ sym left_is in
        let off = ap (λ (device : Device). device.on) (sym same) ∙ by.1 in
        record {
          said = sym (said_is false off);
          left = point_is new (device_called command old) (closed ∙ sym off) same;
        }

module _ (old : Device) (on : IsOn old) (fused : HasFuse old) (new : Point)
    (fused_new : HasFuse new.device) where
  abbrev slots : ℕ
  slots = capacity old

  abbrev state : State
  state = state_of old

  call_decided : (command : Command) (answer : Answer) → CallAnswers true old command answer new
      → IsCallDecided command old answer new
  call_decided (Write address value) Appended asks =
      all_done (Write address value) old on
      (write_goes slots state address value asks.0.proceeds.accepted) fused Appended new
      (appends_behind slots state asks.0.free) fused_new
      (appended_steps (Put address value) old new.device asks.0) asks.1
  call_decided (Write address value) Moved asks =
      all_done (Write address value) old on
      (write_goes slots state address value asks.0.proceeds.accepted) fused Moved new
      (moves_behind slots state asks.0.needed) fused_new
      (moved_steps (Put address value) old new.device asks.0) asks.1
  call_decided (Write address value) Full asks =
      at_once (Write address value) old on Full new
      (write_full slots state address value asks.0.1) asks.0.2 asks.1
  call_decided (Write address value) Spent asks =
      at_once (Write address value) old on Spent new
      (write_spent slots state address value asks.0.1 asks.0.2) asks.0.3 asks.1
  call_decided (Write address value) Cut asks =
      was_cut_in (Write address value) old on
      (write_goes slots state address value asks.0.proceeds.accepted) fused new asks.0.steps
      asks.1
  call_decided (Forget address) Appended asks =
      all_done (Forget address) old on
      (forget_goes slots state address asks.0.proceeds.accepted) fused Appended new
      (appends_behind slots state asks.0.free) fused_new
      (appended_steps (meaning.Forget address) old new.device asks.0) asks.1
  call_decided (Forget address) Moved asks =
      all_done (Forget address) old on
      (forget_goes slots state address asks.0.proceeds.accepted) fused Moved new
      (moves_behind slots state asks.0.needed) fused_new
      (moved_steps (meaning.Forget address) old new.device asks.0) asks.1
  call_decided (Forget address) Absent asks =
      at_once (Forget address) old on Absent new (forget_absent slots state address asks.0.1)
      asks.0.2 asks.1
  call_decided (Forget address) Spent asks =
      at_once (Forget address) old on Spent new
      (forget_spent slots state address asks.0.1 asks.0.2) asks.0.3 asks.1
  call_decided (Forget address) Cut asks =
      was_cut_in (Forget address) old on
      (forget_goes slots state address asks.0.proceeds.accepted) fused new asks.0.steps asks.1
  call_decided (Read address) (Value value) asks =
      at_once (Read address) old on (Value value) new
      (ap (λ found. Some (read_answer found)) (sym asks.0.0.1)) asks.0.1 asks.1
  call_decided (Read address) NoValue asks =
      at_once (Read address) old on NoValue new
      (ap (λ found. Some (read_answer found)) (sym asks.0.0.1)) asks.0.1 asks.1
  call_decided Clean Cleaned asks =
      all_done Clean old on (clean_goes slots state asks.0.some) fused Cleaned new refl fused_new
      asks.0.steps asks.1
  call_decided Clean Idle asks =
      at_once Clean old on Idle new (idle_is slots state asks.0.1) asks.0.2 asks.1
  call_decided Clean Cut asks =
      was_cut_in Clean old on (clean_goes slots state asks.0.some) fused new asks.0.steps asks.1
  call_decided (Arm fuse) Cut asks = absurd asks
  call_decided PowerOn Cut asks = absurd asks
  call_decided command answer asks = absurd asks

-- ---- a line

pub record IsLineDecided (old : Point) (command : Command) (answer : Answer) (new : Point)
    : Type 0 where
  pub said : answer ≡ answer_of command old
  pub left : new ≡ point_after command old

abbrev pub ServesOn : Point → Type 0
ServesOn point = point.serving ≡ true → IsOn point.device

called : (serving : Bool) (old : Device) (command : Command) (answer : Answer) (new : Point)
    → (serving ≡ true → IsOn old) → HasFuse old → HasFuse new.device
    → CallAnswers serving old command answer new
    → (answer ≡ calling_answer serving command old) × (new ≡ point_called serving command old)
called true old command answer new on fused fused_new asks =
    let made = call_decided old (on refl) fused new fused_new command answer asks in
    (made.said, made.left)
called false old command Off new on fused fused_new asks = (refl, asks)
called false old command answer new on fused fused_new asks = absurd asks

fused_on : (old : Device) → HasFuse old → HasFuse (with_power_on old)
fused_on old fused =
    record { fuse = fused.fuse; known = fused.known; left = fused.left }

opened : (serving : Bool) (old : Device) (answer : Answer) (new : Point) → HasFuse old
    → HasFuse new.device → PowerAnswers serving old answer new
    → (answer ≡ opening_answer serving old) × (new ≡ point_opened serving old)
opened true old Opened new fused fused_new powers = (refl, powers)
opened false old Opened new fused fused_new powers =
    let by =
    completed_by_fuse (steps_of_open (with_power_on old)) (with_power_on old) new.device
    (fused_on old fused) fused_new refl powers.0.steps in
    let on = ap (λ (device : Device). device.on) (sym by.0) ∙ by.1 in (
      sym (ap (λ b. cond b Opened Cut) on),
      point_is new (device_opened old) (powers.1 ∙ sym on) by.0,
    )
opened false old Cut new fused fused_new powers =
    let by =
    cut_by_fuse (steps_of_open (with_power_on old)) (with_power_on old) new.device
    (fused_on old fused) refl powers.0.steps in
    let off = ap (λ (device : Device). device.on) (sym by.0) ∙ by.1 in (
      sym (ap (λ b. cond b Opened Cut) off),
      point_is new (device_opened old) (powers.1 ∙ sym off) by.0,
    )
opened serving old answer new fused fused_new powers = absurd powers

line_decided : (old : Point) (command : Command) (answer : Answer) (new : Point) → ServesOn old
    → HasFuse old.device → HasFuse new.device → LineAnswers old command answer new
    → IsLineDecided old command answer new
line_decided old (Arm fuse) answer new on fused fused_new attends =
    record { said = attends.0; left = attends.1 }
line_decided old PowerOn answer new on fused fused_new attends =
    let is = opened old.serving old.device answer new fused fused_new attends in
    record { said = is.0; left = is.1 }
line_decided old (Write address value) answer new on fused fused_new attends =
    let is =
    called old.serving old.device (Write address value) answer new on fused fused_new attends in
    record { said = is.0; left = is.1 }
line_decided old (Forget address) answer new on fused fused_new attends =
    let is =
    called old.serving old.device (Forget address) answer new on fused fused_new attends in
    record { said = is.0; left = is.1 }
line_decided old (Read address) answer new on fused fused_new attends =
    let is = called old.serving old.device (Read address) answer new on fused fused_new attends in
    record { said = is.0; left = is.1 }
line_decided old Clean answer new on fused fused_new attends =
    let is = called old.serving old.device Clean answer new on fused fused_new attends in
    record { said = is.0; left = is.1 }

-- a store is open only while power is on
called_on : (serving : Bool) (command : Command) (device : Device)
    → ServesOn (point_called serving command device)
called_on true command device on = on
called_on false command device on = absurd (true≢false (sym on))

opened_on : (serving : Bool) (device : Device) → (serving ≡ true → IsOn device)
    → ServesOn (point_opened serving device)
opened_on true device on serves = on refl
opened_on false device on serves = serves

after_on : (command : Command) (old : Point) → ServesOn old → ServesOn (point_after command old)
after_on (Arm fuse) old on serves = on serves
after_on PowerOn old on serves = opened_on old.serving old.device on serves
after_on (Write address value) old on serves =
    called_on old.serving (Write address value) old.device serves
after_on (Forget address) old on serves =
    called_on old.serving (Forget address) old.device serves
after_on (Read address) old on serves = called_on old.serving (Read address) old.device serves
after_on Clean old on serves = called_on old.serving Clean old.device serves

-- ---- a run

pub record IsRunDecided (old : Noted) (commands : List Command) (answers : List Answer)
    (new : Noted) : Type 0 where
  pub said : answers ≡ answers_of commands old.point
  pub left : new.point ≡ point_behind commands old.point
  pub noted : new.notes ≡ notes_behind commands old.point old.notes

pub run_decided : (old new : Noted) (commands : List Command) (answers : List Answer)
    → ServesOn old.point → HasFuse old.point.device → Run LineIsNoted old commands answers new
    → IsRunDecided old commands answers new
run_decided old new [] [] on fused run = record {
  said = refl;
  left = ap (λ (noted : Noted). noted.point) run;
  noted = ap (λ (noted : Noted). noted.notes) run;
}
run_decided old new [] (answer ∷ answers) on fused run = absurd run
run_decided old new (command ∷ commands) [] on fused run = absurd run
run_decided old new (command ∷ commands) (answer ∷ answers) on fused run =
    let mid = run.0 in
    let line =
    line_decided old.point command answer mid.point on fused run.1.fused run.1.attends in
    let after = point_after command old.point in
    let rest =
    run_decided mid new commands answers
    (subst ServesOn (sym line.left) (after_on command old.point on)) run.1.fused run.2 in
    let notes : mid.notes
    ≡ notes_after (answer_of command old.point) (state_of after.device).fill old.notes =
    run.1.notes_are
    ∙ ap (λ (point : Point). notes_after answer (state_of point.device).fill old.notes) line.left
    ∙ ap (λ (one : Answer). notes_after one (state_of after.device).fill old.notes) line.said in
    record {
      said = ap (λ (one : Answer). one ∷ answers) line.said
          ∙ ap (λ (more : List Answer). answer_of command old.point ∷ more)
          (rest.said ∙ ap (answers_of commands) line.left);
      left = rest.left ∙ ap (point_behind commands) line.left;
      noted = rest.noted
          ∙ ap (λ (point : Point). notes_behind commands point mid.notes) line.left
          ∙ ap (notes_behind commands after) notes;
    }
