-- The late store, one change further.
use Rattle.std.proofs.Common.{◌≡◌, ℕ, ◌+◌, ◌<◌, ◌≤◌, List, [], ◌∷◌, ◌++◌, length, take, drop, get_or, refl, sym, ◌∙◌, ap, subst, arith, inl, inr, drop-cons, add-one, rules}
use Rattle.std.proofs.lemmas.Grind.{common_steps}
use Rattle.std.proofs.lemmas.List.{take_more, take-append-drop, length-take-le}
use Rattle.ee_check.specs.declared.change.Change.{Change}
use Rattle.ee_check.specs.declared.certificate.Stretch.{Stretch}
use Rattle.ee_check.specs.Live.{live_after_one, live_after, KeepsWithin}
use Rattle.ee_check.specs.Schedule.{Situation, IsProper}
use Rattle.ee_check.specs.Certificate.{Place, first_place, last_place, place_at, IsTightStretch}
use Rattle.ee_check.proofs.Public.{changed-le, EachStretch-append, last_place-append, one_made}
use Rattle.ee_plan.specs.Planner.Plan.{IsPlanFault}
use Rattle.ee_plan.specs.Planner.LateStore.{LateStore, Makes, HasMade, IsChangeRefused}
use Rattle.ee_plan.specs.declared.planner.planned.PlanFault.{PlanFault}
use Rattle.ee_plan.specs.declared.planner.planned.PlanFault.TheVariants.{NotFitting, Memory}
use Rattle.ee_plan.proofs.PlannerLemmas.Fitting.{keeps_more, keeps_append, first_breaks}

-- before the first change
pub made_none : (start : Situation) (trace : List Change) (store : LateStore) → IsProper start
    → store ≡ record { now = start; from = start.fill; stretches = [] }
    → HasMade start trace 0 store
made_none start trace store proper e = search rules

-- the changes fit, one more with them
keeps_one_more : (start : Situation) (trace : List Change) (n : ℕ) (live : List ℕ) (change : Change)
    → n < length trace → change ≡ get_or trace n change
    → live ≡ live_after start.live (take n trace)
    → KeepsWithin start.slots start.live (take n trace)
    → length (live_after_one live change) ≤ start.slots
    → KeepsWithin start.slots start.live (take (n + 1) trace)
keeps_one_more start trace n live change h is live_is keeps fits =
    grind (arith, common_steps, keeps_append, keeps_more, take_more)

appended : (start : Situation) (trace : List Change) (n : ℕ) (change : Change) (old : LateStore)
    → n < length trace → HasMade start trace n old → change ≡ get_or trace n change
    → length (live_after_one old.now.live change) ≤ start.slots → old.now.fill < old.now.slots
    → HasMade start trace (n + 1) record old {
      now = record {
        slots = old.now.slots;
        fill = old.now.fill + 1;
        live = live_after_one old.now.live change;
      };
    }
appended start trace n change old h made is fits free =
    search (rules, changed-le, keeps_one_more, one_made)

carried : (start : Situation) (trace : List Change) (n : ℕ) (change : Change) (old : LateStore)
    → n < length trace → HasMade start trace n old → change ≡ get_or trace n change
    → length (live_after_one old.now.live change) ≤ start.slots → old.now.slots ≤ old.now.fill
    → HasMade start trace (n + 1) record {
      now = record {
        slots = old.now.slots;
        fill = length (live_after_one old.now.live change);
        live = live_after_one old.now.live change;
      };
      from = length (live_after_one old.now.live change);
      stretches = old.stretches ++ record { to = n + 1; from = old.from } ∷ [];
    }
carried start trace n change old h made is fits used =
    let place : Place = last_place start trace (first_place start) old.stretches in
    let stretch : Stretch = record { to = n + 1; from = old.from } in
    let live_is =
    one_made start.live old.now.live (live_after_one old.now.live change) trace n change h
    made.live is refl in
    let a = made.behind in
    let b = made.fill in
    let c = made.fits in
    let d = made.slots in
    let f = made.from in
    let tight : IsTightStretch start trace place stretch = record {
      forced =
          record {
            rising = omega arith;
            within = omega arith;
            from_is = f;
            forced = omega arith;
          };
      tight = omega arith;
    } in
    let e : last_place start trace (first_place start) (old.stretches ++ stretch ∷ [])
    ≡ place_at start trace (n + 1) =
    last_place-append start trace (first_place start) old.stretches stretch in
    let after : (last_place start trace (first_place start) (old.stretches ++ stretch ∷ [])).after
    ≡ n + 1 =
    ap (λ p. p.after) e in
    record {
      slots = d;
      live = live_is;
      keeps = keeps_one_more start trace n old.now.live change h is made.live made.keeps fits;
      stretches =
          EachStretch-append start trace IsTightStretch (first_place start) old.stretches stretch
          made.stretches tight;
      from = ap length live_is ∙ sym (ap (λ p. p.used) e);
      behind = omega arith;
      fill = omega arith;
      held = omega arith;
      fits = fits;
    }

-- one change more is made
pub made_more : (start : Situation) (trace : List Change) (n number : ℕ) (change : Change)
    (old new : LateStore)
    → number ≡ n + 1 → n < length trace → HasMade start trace n old → change ≡ get_or trace n change
    → Makes old change number new → length new.now.live ≤ old.now.slots
    → HasMade start trace (n + 1) new
made_more start trace n number change old new numbered h made is (inl appends) fits =
    let e = appends.new_is in
    let live_fits : length (live_after_one old.now.live change) ≤ start.slots =
    let a = ap (λ s. length s.now.live) e in
    let b = made.slots in omega arith in
    subst (λ s. HasMade start trace (n + 1) s) (sym e)
    (appended start trace n change old h made is live_fits appends.free)
made_more start trace n number change old new numbered h made is (inr carries) fits =
    let e = carries.new_is in
    let live_fits : length (live_after_one old.now.live change) ≤ start.slots =
    let a = ap (λ s. length s.now.live) e in
    let b = made.slots in omega arith in
    let numbers : new ≡ record {
      now = record {
        slots = old.now.slots;
        fill = length (live_after_one old.now.live change);
        live = live_after_one old.now.live change;
      };
      from = length (live_after_one old.now.live change);
      stretches = old.stretches ++ record { to = n + 1; from = old.from } ∷ [];
    } = subst (λ m. new ≡ record {
      now = record {
        slots = old.now.slots;
        fill = length (live_after_one old.now.live change);
        live = live_after_one old.now.live change;
      };
      from = length (live_after_one old.now.live change);
      stretches = old.stretches ++ record { to = m; from = old.from } ∷ [];
    }) numbered e in
    subst (λ s. HasMade start trace (n + 1) s) (sym numbers)
    (carried start trace n change old h made is live_fits carries.used)

-- a change that isn't made is the first that doesn't fit
pub refused : (start : Situation) (trace : List Change) (n number : ℕ) (change : Change)
    (old : LateStore) (fault : PlanFault)
    → number ≡ n + 1 → n < length trace → HasMade start trace n old → change ≡ get_or trace n change
    → IsChangeRefused old change number fault → IsPlanFault start trace fault
refused start trace n number change old Memory numbered h made is why = tt
refused start trace n number change old (NotFitting m) numbered h made is why =
    let behind : drop n trace ≡ get_or trace n change ∷ drop (n + 1) trace =
    rw add-one (drop-cons trace n change h) in
    let parts : trace ≡ take n trace ++ change ∷ drop (n + 1) trace =
    sym (take-append-drop n trace)
    ∙ ap (λ l. take n trace ++ l) (behind ∙ ap (λ c. c ∷ drop (n + 1) trace) (sym is)) in
    let held : length (live_after start.live (take n trace)) ≤ start.slots =
    let a = ap length made.live in
    let b = made.held in
    let c = made.fits in omega arith in
    let breaks : start.slots
    < length (live_after_one (live_after start.live (take n trace)) change) =
    subst (λ l. start.slots < length (live_after_one l change)) made.live (let a = made.slots in
    let b = why.1 in omega arith) in
    let before : length (take n trace) ≡ n = length-take-le n trace (omega arith) in
    first_breaks start trace (take n trace) (drop (n + 1) trace) change m parts made.keeps held
    breaks (let a = why.0 in omega arith)
