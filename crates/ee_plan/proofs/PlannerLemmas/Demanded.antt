-- What the places of the transfers and the counts say of a trace.
use Rattle.std.proofs.Common.{◌≡◌, ℕ, suc, zero, ◌+◌, ◌*◌, ◌<◌, ◌≤◌, List, [], ◌∷◌, ◌++◌, length, take, drop, get_or, refl, sym, ap, ◌∙◌, arith, add-one, drop-cons, rules}
use Rattle.std.proofs.lemmas.Grind.{common_steps}
use Rattle.std.proofs.lemmas.List.{length-append, length-take-le, take-append-drop, take-append-le}
use Rattle.ee_check.specs.declared.change.Change.{Change}
use Rattle.ee_check.specs.declared.change.Change.TheVariants.{Forget}
use Rattle.ee_check.specs.declared.certificate.Stretch.{Stretch}
use Rattle.ee_check.specs.Live.{live_after_one, live_count, KeepsWithin}
use Rattle.ee_check.specs.Schedule.{IsProper}
use Rattle.ee_check.specs.Certificate.{Claim, IsTight, IsTightStretch, EachStretch, first_place, last_place, place_at}
use Rattle.ee_check.proofs.Public.{certificates_bound_schedules_lem, tight_are_certificates_lem, tight_is_met_lem, EachStretch-append, last_place-append, live_after_more}
use Rattle.ee_plan.specs.Planner.Plan.{IsFirstNotFitting}
use Rattle.ee_plan.specs.Planner.Rounds.{repeated_trace, unused_situation, IsFewest}
use Rattle.ee_plan.specs.Planner.Places.{next_place, place_in_round}
use Rattle.ee_plan.proofs.PlannerLemmas.Fitting.{keeps_more, first_breaks}
use Rattle.ee_plan.proofs.PlannerLemmas.Stations.{place_first, place_next}

-- ---- stretches from transfer to transfer

-- so many stretches, each tight, lead to the place
record LeadsTo (slots : ℕ) (trace : List Change) (k place : ℕ) : Type 0 where
  stretches : List Stretch
  each : EachStretch (unused_situation slots) trace IsTightStretch
      (first_place (unused_situation slots)) stretches
  many : length stretches ≡ k
  last : last_place (unused_situation slots) trace (first_place (unused_situation slots)) stretches
      ≡ place_at (unused_situation slots) trace place

leads : (count : ℕ → ℕ) (slots : ℕ) (trace : List Change)
    → ((n : ℕ) → n ≤ length trace → count n ≡ live_count [] trace n)
    → ((n : ℕ) → n ≤ length trace → count n ≤ slots) → (k : ℕ)
    → place_in_round count slots k ≤ length trace
    → LeadsTo slots trace k (place_in_round count slots k)
leads count slots trace counts fits zero within = search (rules, place_first)
leads count slots trace counts fits (suc k) within =
    let p = place_in_round count slots k in
    let q = place_in_round count slots (suc k) in
    let is : q ≡ next_place count slots p =
    ap (place_in_round count slots) (sym (add-one k)) ∙ place_next count slots k in
    let before = leads count slots trace counts fits k (omega arith) in
    let stretch : Stretch = record { to = q; from = count p } in
    let a = counts p (omega arith) in
    let b = fits p (omega arith) in
    let after
    :
    (last_place (unused_situation slots) trace (first_place (unused_situation slots))
    before.stretches).after
    ≡ p =
    ap (λ l. l.after) before.last in
    let used
    :
    (last_place (unused_situation slots) trace (first_place (unused_situation slots))
    before.stretches).used
    ≡ live_count [] trace p =
    ap (λ l. l.used) before.last in
    let tight : IsTightStretch (unused_situation slots) trace
    (last_place (unused_situation slots) trace (first_place (unused_situation slots))
    before.stretches) stretch =
    record {
      forced = record {
        rising = omega arith;
        within = within;
        from_is = omega arith;
        forced = omega arith;
      };
      tight = omega arith;
    } in
    record {
      stretches = before.stretches ++ stretch ∷ [];
      each = EachStretch-append (unused_situation slots) trace IsTightStretch
          (first_place (unused_situation slots)) before.stretches stretch before.each tight;
      many = let c = length-append before.stretches (stretch ∷ []) in
          let d = before.many in omega arith;
      last = last_place-append (unused_situation slots) trace (first_place (unused_situation slots))
          before.stretches stretch;
    }

-- as many transfers as come within the trace are the fewest
pub fewest : (count : ℕ → ℕ) (slots : ℕ) (trace : List Change) (k : ℕ)
    → ((n : ℕ) → n ≤ length trace → count n ≡ live_count [] trace n)
    → ((n : ℕ) → n ≤ length trace → count n ≤ slots) → place_in_round count slots k ≤ length trace
    → length trace < place_in_round count slots (k + 1) → IsFewest (unused_situation slots) trace k
fewest count slots trace k counts fits within beyond =
    let way = leads count slots trace counts fits k within in
    let p = place_in_round count slots k in
    let start = unused_situation slots in
    let proper : IsProper start = record { held = omega arith; fits = omega arith } in
    let claim : Claim = record {
      slots = slots;
      fill = 0;
      live = 0;
      writes = length trace;
      stretches = way.stretches;
    } in
    let a = counts p within in
    let b = fits p within in
    let c = place_next count slots k in
    let after = ap (λ l. l.after) way.last in
    let used = ap (λ l. l.used) way.last in
    let tight : IsTight start trace claim = record {
      header =
          record { slots = refl; fill = refl; live = refl; writes = refl };
      stretches = way.each;
      fits = omega arith;
    } in
    let met = tight_is_met_lem start trace claim proper tight in
    let bound = certificates_bound_schedules_lem start trace claim in
    record {
      claim = claim;
      tight = tight;
      stretches = sym way.many;
      reached = (
        met.0,
        met.1,
        (let d = met.2 in
            let e = way.many in omega arith),
      );
      fewest =
          λ moves schedule. let d =
          bound moves proper (tight_are_certificates_lem start trace claim tight) schedule in
          let e = way.many in omega arith;
    }

-- ---- whether the changes fit

pub keeps_by_counts : (slots : ℕ) (live : List ℕ) (trace : List Change)
    → ((n : ℕ) → n ≤ length trace → live_count live trace n ≤ slots) → KeepsWithin slots live trace
keeps_by_counts slots live [] fits = tt
keeps_by_counts slots live (change ∷ changes) fits =
    keeps_more slots live change changes (fits (suc zero) (omega arith))
    (keeps_by_counts slots (live_after_one live change) changes
    (λ n h. fits (suc n) (omega arith)))

-- before some change of it
keeps_before : (slots : ℕ) (trace : List Change) (m : ℕ) → m ≤ length trace
    → ((n : ℕ) → n ≤ m → live_count [] trace n ≤ slots) → KeepsWithin slots [] (take m trace)
keeps_before slots trace m h fits =
    grind (arith, common_steps, keeps_by_counts, length-take-le, take-append-drop, take-append-le)

pub first_not_fitting : (slots : ℕ) (trace : List Change) (n : ℕ) → n ≤ length trace
    → slots < live_count [] trace n → ((m : ℕ) → m < n → live_count [] trace m ≤ slots)
    → IsFirstNotFitting (unused_situation slots) trace n
first_not_fitting slots trace zero within over before =
    absurd (let h : slots < 0 = over in omega arith)
first_not_fitting slots trace (suc m) within over before =
    let change = get_or trace m (Forget 0) in
    let is : trace ≡ take m trace ++ change ∷ drop (suc m) trace =
    sym (take-append-drop m trace)
    ∙ ap (λ l. take m trace ++ l) (drop-cons trace m (Forget 0) (omega arith)) in
    let more = ap length (live_after_more [] trace m (Forget 0) (omega arith)) in
    let one = ap (live_count [] trace) (add-one m) in
    first_breaks (unused_situation slots) trace (take m trace) (drop (suc m) trace) change (suc m)
    is
    (keeps_before slots trace m (omega arith) (λ n h. before n (omega arith)))
    (before m (omega arith))
    (omega arith) (let size = length-take-le m trace (omega arith) in omega arith)

-- ---- a trace of no changes

pub repeated_nothing : (runs : ℕ) (trace : List Change) → length trace ≡ 0
    → repeated_trace runs trace ≡ []
repeated_nothing zero trace empty = refl
repeated_nothing (suc runs) [] empty = repeated_nothing runs [] empty
repeated_nothing (suc runs) (change ∷ changes) empty = absurd (omega arith)

pub length-repeated : (runs : ℕ) (trace : List Change)
    → length (repeated_trace runs trace) ≡ runs * length trace
length-repeated zero trace = omega arith
length-repeated (suc runs) trace = search (rules, length-append, (length-repeated runs trace))

pub nothing_takes_none : (slots : ℕ) → IsFewest (unused_situation slots) [] 0
nothing_takes_none slots =
    let count : ℕ → ℕ = λ n. 0 in
    fewest count slots [] 0 (λ n h. (let e : n ≡ 0 = omega arith in rw e refl)) (λ n h. omega arith)
    (let a = place_first count slots in omega arith)
    (let a = place_next count slots 0 in omega arith)
