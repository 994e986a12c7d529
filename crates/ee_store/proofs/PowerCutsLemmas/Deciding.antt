-- With a fuse that is known, what events are answered and what they leave are functions of the
-- point before them.
use Rattle.std.proofs.Common.{◌≡◌, ◌⊎◌, inl, inr, ℕ, Bool, cond, Option, Some, None, List, [], ◌∷◌, ap, false, map, refl, sym, subst, true, ◌∙◌}
use Rattle.std.specs.Prelude.{◌==◌, not, is_some}
use Rattle.std.specs.List.{filter_map}
use Rattle.ee_codec.specs.Words.{IsAddress}
use Rattle.ee_flash.proofs.Public.{completed_by_fuse, cut_by_fuse}
use Rattle.ee_flash.specs.Device.{Device, IsOn}
use Rattle.ee_flash.specs.Laws.{after_steps}
use Rattle.ee_flash.specs.Step.{Step}
use Rattle.ee_flash.specs.Taking.{HasFuse}
use Rattle.ee_pages.specs.Legal.{IsLegal}
use Rattle.ee_pages.specs.Meaning.{live_in}
use Rattle.ee_pages.specs.Sets.{live_of, set_of, slots_of}
use Rattle.ee_pages.specs.declared.side.Side.{Side}
use Rattle.ee_core.proofs.Public.{legal_on, meaning_outside, startable_on}
use Rattle.ee_core.specs.Points.{Point, closed_point, with_power_on}
use Rattle.ee_core.specs.Runs.{Call}
use Rattle.ee_core.specs.Starts.{IsStartable}
use Rattle.ee_core.specs.State.{state_in, state_of}
use Rattle.ee_core.specs.declared.variables.ClearFault.TheVariants as clear
use Rattle.ee_core.specs.declared.variables.ForgetFault.TheVariants as forget
use Rattle.ee_core.specs.declared.variables.WriteAllFault.TheVariants as all
use Rattle.ee_core.specs.declared.variables.WriteFault.TheVariants as write
use Rattle.ee_store.proofs.PowerCutsLemmas.KeptChanges.{does_turn}
use Rattle.ee_store.proofs.PowerCutsLemmas.FirstStores.{first}
use Rattle.ee_store.proofs.PowerCutsLemmas.Refusals.{all_tested, emptied_tested, none_tested, same_test, value_tested}
use Rattle.ee_store.specs.PowerCuts.Deciding.{ByFuse, event_at_once, answer_when_done, answer_when_cut, answer_by_power, answer_served, answer_met, event_answer, event_answers, device_served, left_by_steps, device_met, found_by, found_of, has_all, has_value, kept_of, point_after_event, point_behind_events, steps_of_event, noted_with}
use Rattle.ee_store.specs.PowerCuts.Events.{AreTold, AreTurns, Happens, IsCalled, IsLookedFor, IsTurn, Turn, call_of_event, serves_after}
use Rattle.ee_store.specs.declared.power_cuts.event.Answer.{Answer}
use Rattle.ee_store.specs.declared.power_cuts.event.Answer.TheVariants.{NotCleared, NotForgotten, NotWritten, Off, Refused}
use Rattle.ee_store.specs.declared.power_cuts.event.Event.{Event}
use Rattle.ee_store.specs.declared.power_cuts.event.Event.TheVariants.{Clean, Clear, Forget, Get, Put, PutAll, Reopen, Start}
use Rattle.ee_store.proofs.PowerCutsLemmas.FuseSteps.{IsBurnt, IsKnown, cut_burnt, cut_known, not_burnt, steps_burnt, steps_known}
use Rattle.ee_store.proofs.PowerCutsLemmas.Meeting.{AtOnce, IsGood, IsMet, Meets, WasCut, Whole, clean_met, clear_met, forget_met, get_met, put_all_met, put_met, reopen_met, start_met}

module _ (once : Option Answer) (steps : List Step) (whole cut : Answer) (old : Device)
    (answer : Answer) (new : Device) where
  met_known : IsKnown old → Meets once steps whole cut old answer new → IsKnown new
  met_known known (AtOnce is same) = subst IsKnown (sym same) known
  met_known known (Whole none says taken) =
      subst IsKnown (sym taken.done) (steps_known steps old known)
  met_known known (WasCut none says among) = inl (cut_known steps old new known among)

  met_burnt : IsBurnt old → Meets once steps whole cut old answer new → IsBurnt new
  met_burnt burnt (AtOnce is same) = subst IsBurnt (sym same) burnt
  met_burnt burnt (Whole none says taken) =
      subst IsBurnt (sym taken.done) (steps_burnt steps old burnt)
  met_burnt burnt (WasCut none says among) = absurd (cut_burnt steps old new burnt among)

  abbrev left : Device
  left = left_by_steps once steps old

  given : (now : Bool) → once ≡ None → new ≡ after_steps steps old → new.on ≡ now
      → answer ≡ cond now whole cut
      → (answer ≡ answer_by_power once whole cut left) × (new ≡ left)
  given now none same on says =
      let is : new ≡ left = same ∙ sym (ap (λ one. left_by_steps one steps old) none) in (
        says
            ∙ ap (λ b. cond b whole cut) (sym on ∙ ap (λ (device : Device). device.on) is)
            ∙ sym (ap (λ one. answer_by_power one whole cut left) none),
        is,
      )

  met_decided : IsOn old → HasFuse old → HasFuse new → Meets once steps whole cut old answer new
      → (answer ≡ answer_by_power once whole cut left) × (new ≡ left)
  met_decided on had has (AtOnce is same) = (
    sym (ap (λ one. answer_by_power one whole cut left) is),
    same ∙ sym (ap (λ one. left_by_steps one steps old) is),
  )
  met_decided on had has (Whole none says taken) =
      let by = completed_by_fuse steps old new had has on taken in
      given true none by.0 by.1 says
  met_decided on had has (WasCut none says among) =
      let by = cut_by_fuse steps old new had on among in given false none by.0 by.1 says

-- ---- a turn

-- it does nothing, or its event is met on a device that is on
data Turns (serving : Bool) (event : Event) (answer : Answer) (old new : Device) : Type 0 where
  Idle : answer ≡ answer_served serving event old → new ≡ device_served serving event old
      → new ≡ old → Turns serving event answer old new
  Met : (begun : Device) → begun.fuse ≡ old.fuse → begun.cuts_left ≡ old.cuts_left → IsOn begun
      → answer_served serving event old ≡ answer_met event begun
      → device_served serving event old ≡ device_met event begun → IsMet event begun answer new
      → Turns serving event answer old new

stands_on : (device : Device) → IsGood device
    → IsGood (with_power_on device)
stands_on device (inl legal) = inl (legal_on device legal)
stands_on device (inr startable) = inr (startable_on device startable)

called_on : (call : Option Call) (old new : Device) → IsCalled call old new → IsOn old
called_on None old new called = absurd called
called_on (Some call) old new called = called.0

turned : (serving : Bool) (event : Event) (answer : Answer) (old new : Device)
    → IsGood old → Happens serving event answer old new
    → Turns serving event answer old new
turned serving Reopen answer old new stands happens =
    Met (with_power_on old) refl refl refl refl refl
    (reopen_met old new answer (stands_on old stands) happens)
turned serving Start answer old new stands happens =
    Met (with_power_on old) refl refl refl refl refl
    (start_met old new answer (stands_on old stands) happens)
turned true (Put address value) answer old new stands happens =
    Met old refl refl (called_on (call_of_event (Put address value) answer) old new happens) refl
    refl (put_met old new address value answer happens)
turned true (PutAll puts) answer old new stands happens =
    Met old refl refl (called_on (call_of_event (PutAll puts) answer) old new happens) refl refl
    (put_all_met old new puts answer happens)
turned true (Forget address) answer old new stands happens =
    Met old refl refl (called_on (call_of_event (Forget address) answer) old new happens) refl refl
    (forget_met old new address answer happens)
turned true (Get address) answer old new stands happens =
    Met old refl refl (called_on (call_of_event (Get address) answer) old new happens) refl refl
    (get_met old new address answer happens)
turned true Clear answer old new stands happens =
    Met old refl refl (called_on (call_of_event Clear answer) old new happens) refl refl
    (clear_met old new answer happens)
turned true Clean answer old new stands happens =
    Met old refl refl (called_on (call_of_event Clean answer) old new happens) refl refl
    (clean_met old new answer happens)
turned false (Put address value) Off old new stands same = Idle refl same same
turned false (PutAll puts) Off old new stands same = Idle refl same same
turned false (Forget address) Off old new stands same = Idle refl same same
turned false (Get address) Off old new stands same = Idle refl same same
turned false Clear Off old new stands same = Idle refl same same
turned false Clean Off old new stands same = Idle refl same same
turned false event answer old new stands idles = absurd idles

has_as : (device other : Device) → other.fuse ≡ device.fuse → other.cuts_left ≡ device.cuts_left
    → HasFuse device → HasFuse other
has_as device other fuse left has =
    record { fuse = has.fuse; known = fuse ∙ has.known; left = left ∙ has.left }

burnt_as : (device other : Device) → other.fuse ≡ device.fuse → other.cuts_left ≡ device.cuts_left
    → IsBurnt device → IsBurnt other
burnt_as device other fuse left burnt =
    record { gone = fuse ∙ burnt.gone; left = left ∙ burnt.left }

module _ (serving : Bool) (event : Event) (answer : Answer) (old new : Device) where
  turn_known : HasFuse old → Turns serving event answer old new → IsKnown new
  turn_known has (Idle says leaves same) = inl (subst HasFuse (sym same) has)
  turn_known has (Met begun fuse cuts on says leaves met) =
      met_known (event_at_once event begun) (steps_of_event event begun)
      (answer_when_done event begun) (answer_when_cut event) begun answer new
      (inl (has_as old begun fuse cuts has)) met

  turn_burnt : IsBurnt old → Turns serving event answer old new → IsBurnt new
  turn_burnt burnt (Idle says leaves same) = subst IsBurnt (sym same) burnt
  turn_burnt burnt (Met begun fuse cuts on says leaves met) =
      met_burnt (event_at_once event begun) (steps_of_event event begun)
      (answer_when_done event begun) (answer_when_cut event) begun answer new
      (burnt_as old begun fuse cuts burnt) met

  turn_decided : HasFuse old → HasFuse new → Turns serving event answer old new
      → (answer ≡ answer_served serving event old) × (new ≡ device_served serving event old)
  turn_decided had has (Idle says leaves same) = (says, leaves)
  turn_decided had has (Met begun fuse cuts on says leaves met) =
      let is =
      met_decided (event_at_once event begun) (steps_of_event event begun)
      (answer_when_done event begun) (answer_when_cut event) begun answer new on
      (has_as old begun fuse cuts had) has met in
      (is.0 ∙ sym says, is.1 ∙ sym leaves)

-- ---- what is found

-- the map of a device has values at proper addresses alone
outside : (device : Device) (live : Option (Side × ℕ)) (address : ℕ) → ¬ IsAddress address
    → (state_in device live).map address ≡ None
outside device None address improper = refl
outside device (Some live) address improper =
    meaning_outside (slots_of (set_of live.0 device)) address improper

found_is : (event : Event) (answer : Answer) (found : Option Bool) (new : Device)
    → IsLookedFor event answer found new → found ≡ found_by event answer (state_of new).map
found_is (Put address value) (Refused write.Cut) None new looked = absurd looked
found_is (Put address value) (Refused write.Cut) (Some held) new looked =
    let found = (state_of new).map address in
    ap (λ b. Some b)
    (same_test held (has_value found value) looked (value_tested found value))
found_is (PutAll puts) (NotWritten all.Cut) None new looked = absurd looked
found_is (PutAll puts) (NotWritten all.Cut) (Some held) new looked =
    ap (λ b. Some b)
    (same_test held (has_all puts.now (state_of new).map) looked
    (all_tested puts.now (state_of new).map))
found_is (Forget address) (NotForgotten forget.Cut) None new looked = absurd looked
found_is (Forget address) (NotForgotten forget.Cut) (Some held) new looked =
    let found = (state_of new).map address in
    ap (λ b. Some b)
    (same_test held (not (is_some found)) looked (none_tested found))
found_is Clear (NotCleared clear.Cut) None new looked = absurd looked
found_is Clear (NotCleared clear.Cut) (Some held) new looked =
    ap (λ b. Some b)
    (same_test held (live_in (state_of new).map == 0) looked
    (emptied_tested (state_of new).map (outside new (live_of new))))
found_is event answer found new looked = looked

-- ---- turns, one after another

abbrev StandsAt : Point → Type 0
StandsAt point =
    (IsStartable point.device × (point.serving ≡ false)) ⊎ IsLegal point.device

good : (point : Point) → StandsAt point → IsGood point.device
good point (inl startable) = inr startable.0
good point (inr legal) = inl legal

module _ (turn : Turn) (old new : Point) (taken : IsTurn turn old new) where
  stands_next : StandsAt old → StandsAt new
  stands_next (inr legal) = inr ((does_turn turn old new taken).legal legal)
  stands_next (inl startable) =
      let happens =
      subst (λ (serving : Bool). Happens serving turn.event turn.answer old.device new.device)
      startable.1 taken.happens in
      elim
      ((first turn.event turn.answer turn.found old.device new.device startable.0 happens).stands) [
        | inl still ↦
            inl (
              still.0,
              taken.serving_is ∙ ap (λ (serving : Bool). serves_after serving turn.answer)
                  startable.1
                  ∙ still.1,
            )
        | inr legal ↦ inr legal.0
      ]

  turns_so : StandsAt old → Turns old.serving turn.event turn.answer old.device new.device
  turns_so stands =
      turned old.serving turn.event turn.answer old.device new.device (good old stands)
      taken.happens

burnt_end : (turns : List Turn) (old new : Point) → StandsAt old → IsBurnt old.device
    → AreTurns turns old new → IsBurnt new.device
burnt_end [] old new stands burnt run =
    subst (λ (point : Point). IsBurnt point.device) (sym run) burnt
burnt_end (turn ∷ turns) old new stands burnt run =
    burnt_end turns run.0 new (stands_next turn old run.0 run.1 stands)
    (turn_burnt old.serving turn.event turn.answer old.device run.0.device burnt
    (turns_so turn old run.0 run.1 stands)) run.2

abbrev events_in : List Turn → List Event
events_in turns = map (λ turn. turn.event) turns

record AreDecided (turns : List Turn) (old new : Point) : Type 0 where
  log : map (λ turn. turn.answer) turns ≡ event_answers (events_in turns) old
  kept : filter_map (λ turn. turn.found) turns ≡ kept_of (events_in turns) old
  end : new ≡ point_behind_events (events_in turns) old

noted : (event : Event) (answer : Answer) (found : Option Bool) (turns : List Turn)
    → filter_map (λ (one : Turn). one.found)
    (record { event = event; answer = answer; found = found } ∷ turns)
    ≡ noted_with found (filter_map (λ (one : Turn). one.found) turns)
noted event answer None turns = refl
noted event answer (Some found) turns = refl

point_is : (point : Point) (serving : Bool) (device : Device) → point.serving ≡ serving
    → point.device ≡ device → point ≡ record { serving = serving; device = device }
point_is point serving device still same =
    ap (λ (b : Bool). record { serving = b; device = point.device }) still
    ∙ ap (λ (left : Device). record { serving = serving; device = left }) same

turns_decided : (turns : List Turn) (old new : Point) → StandsAt old → HasFuse old.device
    → HasFuse new.device → AreTurns turns old new → AreDecided turns old new
turns_decided [] old new stands had has run = record { log = refl; kept = refl; end = run }
turns_decided (turn ∷ turns) old new stands had has run =
    let mid = run.0 in
    let event = turn.event in
    let next = stands_next turn old mid run.1 stands in
    let so = turns_so turn old mid run.1 stands in
    let has_mid : HasFuse mid.device =
    elim (turn_known old.serving event turn.answer old.device mid.device had so) [
      | inl known ↦ known
      | inr burnt ↦
          absurd (not_burnt new.device has (burnt_end turns mid new next burnt run.2))
    ] in
    let one = turn_decided old.serving event turn.answer old.device mid.device had has_mid so in
    let after = point_after_event event old in
    let left : mid ≡ after =
    point_is mid after.serving after.device
    (run.1.serving_is ∙ ap (serves_after old.serving) one.0) one.1 in
    let found : turn.found ≡ found_of event old =
    found_is event turn.answer turn.found mid.device run.1.looked
    ∙ ap (λ (answer : Answer). found_by event answer (state_of mid.device).map) one.0
    ∙ ap (λ (device : Device). found_by event (event_answer event old) (state_of device).map)
    one.1 in
    let rest = turns_decided turns mid new next has_mid has run.2 in
    record {
      log = ap (λ (answer : Answer). answer ∷ map (λ turn. turn.answer) turns) one.0
          ∙ ap (λ (more : List Answer). event_answer event old ∷ more)
          (rest.log ∙ ap (event_answers (events_in turns)) left);
      kept = noted event turn.answer turn.found turns
          ∙ ap (λ (one : Option Bool). noted_with one (filter_map (λ turn. turn.found) turns))
          found
          ∙ ap (noted_with (found_of event old))
          (rest.kept ∙ ap (kept_of (events_in turns)) left);
      end = rest.end ∙ ap (point_behind_events (events_in turns)) left;
    }

stands_closed : (device : Device) → IsGood device
    → StandsAt (closed_point device)
stands_closed device (inl legal) = inr legal
stands_closed device (inr startable) = inl (startable, refl)

pub decided : (turns : List Turn) (old new : Device) (events : List Event) (log : List Answer)
    (kept : List Bool) (end : Point) → AreTold turns events log kept
    → AreTurns turns (closed_point old) end → new ≡ end.device
    → ByFuse old events log kept new
decided turns old new events log kept end told run same had has stands =
    let is =
    turns_decided turns (closed_point old) end (stands_closed old stands) had
    (subst HasFuse same has) run in
    record {
      log_is = sym told.log_is ∙ is.log
          ∙ ap (λ (list : List Event). event_answers list (closed_point old)) told.events_are;
      kept_is = sym told.kept_is ∙ is.kept
          ∙ ap (λ (list : List Event). kept_of list (closed_point old)) told.events_are;
      device_is = same ∙ ap (λ (point : Point). point.device) is.end
          ∙ ap (λ (list : List Event). (point_behind_events list (closed_point old)).device)
          told.events_are;
    }
