-- What is answered of a trace made many times over.
use Rattle.std.proofs.Common.{◌≡◌, ℕ, ◌+◌, ◌*◌, ◌<◌, ◌≤◌, List, [], length, refl, sym, ap, subst, arith}
use Rattle.ee_check.specs.declared.change.Change.{Change}
use Rattle.ee_check.specs.Live.{live_count, KeepsWithin}
use Rattle.ee_plan.specs.declared.planner.counts.Counts.{Counts}
use Rattle.ee_plan.specs.declared.planner.demand.Demand.{Demand}
use Rattle.ee_plan.specs.declared.planner.demand.Demand.TheVariants.{Transfers, NotFitting}
use Rattle.ee_plan.specs.Planner.Plan.{IsFirstNotFitting}
use Rattle.ee_plan.specs.Planner.Rounds.{repeated_trace, unused_situation, IsDemand}
use Rattle.ee_plan.specs.Planner.Places.{AreRoundCounts, IsFirstOver, count_after, place_in_round}
use Rattle.ee_plan.proofs.PlannerLemmas.Fitting.{none_breaks, one_first}
use Rattle.ee_plan.proofs.PlannerLemmas.Counted.{counted, in_two_rounds, later_length}
use Rattle.ee_plan.proofs.PlannerLemmas.Demanded.{fewest, keeps_by_counts, first_not_fitting, repeated_nothing, length-repeated, nothing_takes_none}

-- no change at all
pub demand_of_nothing : (slots runs : ℕ) (trace : List Change) → length trace ≡ 0
    → IsDemand (unused_situation slots) (repeated_trace runs trace) (Transfers 0)
demand_of_nothing slots runs trace empty =
    subst (λ changes. IsDemand (unused_situation slots) changes (Transfers 0))
    (sym (repeated_nothing runs trace empty)) (tt, nothing_takes_none slots)

-- a change after which too many addresses are live
pub demand_over : {A : Type 0} (counts : Counts A) (slots runs last n : ℕ) (trace : List Change)
    → AreRoundCounts trace counts → 0 < length trace → last ≤ runs * length trace → n ≤ last
    → IsFirstOver (count_after counts) slots n
    → IsDemand (unused_situation slots) (repeated_trace runs trace) (NotFitting n)
demand_over counts slots runs last n trace are some within h first =
    let size = length-repeated runs trace in
    let here = counted trace counts runs n are some (omega arith) in
    first_not_fitting slots (repeated_trace runs trace) n (omega arith)
    (let a = first.over in omega arith)
    (λ m k. let a = counted trace counts runs m are some (omega arith) in
    let b = first.before m k in omega arith)

-- none, and the transfers that come within the trace
pub demand_of_all : {A : Type 0} (counts : Counts A) (slots runs last k : ℕ) (trace : List Change)
    → AreRoundCounts trace counts → 0 < length trace
    → (last < runs * length trace → last ≡ 2 * length trace)
    → ((n : ℕ) → n ≤ last → count_after counts n ≤ slots)
    → place_in_round (count_after counts) slots k ≤ runs * length trace
    → runs * length trace < place_in_round (count_after counts) slots (k + 1)
    → IsDemand (unused_situation slots) (repeated_trace runs trace) (Transfers k)
demand_of_all counts slots runs last k trace are some cut fits within beyond =
    let as_long = later_length trace counts are in
    let size = length-repeated runs trace in
    let all =
    in_two_rounds counts slots last (runs * length trace) (omega arith)
    (λ h. let a = cut h in omega arith) fits in
    let counts_are : (n : ℕ) → n ≤ length (repeated_trace runs trace)
    → count_after counts n ≡ live_count [] (repeated_trace runs trace) n =
    λ n h. counted trace counts runs n are some (omega arith) in
    let fit : (n : ℕ) → n ≤ length (repeated_trace runs trace) → count_after counts n ≤ slots =
    λ n h. all n (omega arith) in (
      keeps_by_counts slots [] (repeated_trace runs trace) (λ n h. let a = counts_are n h in
          let b = fit n h in omega arith),
      fewest (count_after counts) slots (repeated_trace runs trace) k counts_are fit (omega arith)
          (omega arith),
    )

-- which answer it is

pub answers_fits : (slots : ℕ) (trace : List Change) (demand : Demand)
    → IsDemand (unused_situation slots) trace demand → KeepsWithin slots [] trace
    → (n : ℕ) × (demand ≡ Transfers n)
answers_fits slots trace (Transfers n) is keeps = (n, refl)
answers_fits slots trace (NotFitting n) is keeps =
    absurd (none_breaks (unused_situation slots) trace n keeps is)

pub answers_not_fitting : (slots : ℕ) (trace : List Change) (demand : Demand)
    → IsDemand (unused_situation slots) trace demand → (n : ℕ)
    → IsFirstNotFitting (unused_situation slots) trace n → demand ≡ NotFitting n
answers_not_fitting slots trace (Transfers k) is n first =
    absurd (none_breaks (unused_situation slots) trace n is.0 first)
answers_not_fitting slots trace (NotFitting k) is n first =
    ap NotFitting (one_first (unused_situation slots) trace k n is first)
