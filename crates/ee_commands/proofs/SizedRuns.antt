-- A store that was just formatted wears as the line of its size tells, and makes
-- what it is asked for.
use Rattle.std.proofs.Common.{◌≡◌, ◌∙◌, inl, inr, ℕ, ◌+◌, ◌<◌, ◌≤◌, Bool, false, None, leb, List, [], ◌∷◌, ◌++◌, length, refl, sym, subst, ap, arith, rules}
use Rattle.std.proofs.lemmas.Bool.{and_parts, cases_eq, leb-true, ltb-false}
use Rattle.std.specs.List.{All}
use Rattle.ee_flash.specs.Device.{Device, IsOn}
use Rattle.ee_flash.specs.Size.{size_of, slot_count}
use Rattle.ee_core.proofs.Public.{no_page_wears_more_lem}
use Rattle.ee_core.specs.Openings.{IsFormatted}
use Rattle.ee_core.specs.Runs.{Call, IsWholeRun, is_cut, transfers}
use Rattle.ee_core.specs.State.{State, formatted_state, state_of}
use Rattle.ee_core.specs.Changes.{greatest_generation}
use Rattle.ee_check.proofs.Public.{late_moves, late_stores_meet_it_lem}
use Rattle.ee_check.specs.declared.change.Change.{Change}
use Rattle.ee_check.specs.Live.{KeepsWithin}
use Rattle.ee_check.specs.Schedule.{IsProper, Situation, cost}
use Rattle.ee_plan.proofs.PlannerLemmas.Public.{none_breaks}
use Rattle.ee_plan.proofs.Public.{length_map, none_sorted}
use Rattle.ee_plan.specs.Planner.Rounds.{IsDemand, repeated_trace, unused_situation}
use Rattle.ee_plan.specs.Start.{AreLive, IsStartOf}
use Rattle.ee_plan.specs.declared.planner.demand.Demand.{Demand}
use Rattle.ee_plan.specs.declared.planner.demand.Demand.TheVariants.{Transfers, NotFitting}
use Rattle.ee_commands.specs.ToldSizes.{ForgetsLive, IsDemandOf, WearsAsTold, asked_by_calls, is_of_several, made_by_calls, wants_memory}
use Rattle.ee_commands.specs.Sizing.{AreDemands, IsSized, erases_for, is_spent_by, most_transfers}
use Rattle.ee_commands.proofs.AllMade.{all_made}
use Rattle.ee_commands.proofs.AskedRuns.{IsBelow, bounded}
use Rattle.ee_commands.proofs.MadeRuns.{ArePlain, AreProper, IsLateOf, late_calls, repeated_proper, trace_proper}

-- ---- the line of a size

-- a demand among those of all sizes, with those of fewer pages and those of more
record IsAmong (words pages first : ℕ) (trace : List Change) (demands : List Demand) : Type 0 where
  smaller : List Demand
  demand : Demand
  larger : List Demand
  parts : demands ≡ smaller ++ demand ∷ larger
  place : pages ≡ first + length smaller
  demanded : IsDemand (unused_situation (slot_count (size_of pages words))) trace demand

first_of : (words pages first : ℕ) (trace : List Change) (demand : Demand) (demands : List Demand)
    → pages ≡ first → IsDemand (unused_situation (slot_count (size_of first words))) trace demand
    → IsAmong words pages first trace (demand ∷ demands)
first_of words pages first trace demand demands here demanded = record {
  smaller = [];
  demand = demand;
  larger = demands;
  parts = refl;
  place = omega (arith, here);
  demanded =
      subst (λ n. IsDemand (unused_situation (slot_count (size_of n words))) trace demand)
      (sym here) demanded;
}

further_of : (words pages first : ℕ) (trace : List Change) (demand : Demand) (demands : List Demand)
    → IsAmong words pages (first + 1) trace demands
    → IsAmong words pages first trace (demand ∷ demands)
further_of words pages first trace demand demands later = record {
  smaller = demand ∷ later.smaller;
  demand = later.demand;
  larger = later.larger;
  parts = ap (λ l. demand ∷ l) later.parts;
  place = omega (arith, later.place);
  demanded = later.demanded;
}

among : (words pages first : ℕ) (trace : List Change) (demands : List Demand) → first ≤ pages
    → pages < first + length demands → AreDemands words trace first demands
    → IsAmong words pages first trace demands
among words pages first trace [] low high are = absurd (omega (arith, low, high))
among words pages first trace (demand ∷ demands) low high are = elim (cases_eq pages first) [
  | inl here ↦ first_of words pages first trace demand demands here are.0
  | inr other ↦ further_of words pages first trace demand demands
      (among words pages (first + 1) trace demands (omega (arith, low, other)) (omega (arith, high))
      are.1)
]

-- and what is demanded of a size, by its place among all
demand_at : (words first : ℕ) (trace : List Change) (smaller larger : List Demand) (demand : Demand)
    → AreDemands words trace first (smaller ++ demand ∷ larger)
    → IsDemand (unused_situation (slot_count (size_of (first + length smaller) words))) trace demand
demand_at words first trace [] larger demand are = search rules
demand_at words first trace (one ∷ smaller) larger demand are =
    search (rules, (demand_at words (first + 1) trace smaller larger demand are.1))

demanded_there : (words pages : ℕ) (trace : List Change) (most : ℕ) (demands : List Demand)
    → IsDemandOf pages demands (Transfers most) → AreDemands words trace 1 demands
    → IsDemand (unused_situation (slot_count (size_of pages words))) trace (Transfers most)
demanded_there words pages trace most demands line are = search (rules, demand_at)

-- what the changes demand is what the calls did
did_so : (start : Situation) (trace : List Change) (demand : Demand) (calls : List Call)
    → IsProper start → IsLateOf start calls → made_by_calls calls ≡ trace
    → IsDemand start trace demand → demand ≡ Transfers (transfers calls)
did_so start trace (Transfers told) calls proper late same demanded =
    let fewest = demanded.1 in
    let met =
    late_stores_meet_it_lem start trace fewest.claim late.moves proper fewest.tight
    (late.changes_are ∙ same) late.late in
    let count : transfers calls ≡ length fewest.claim.stretches =
    sym (late.carried 0) ∙ ap length met.0 ∙ length_map fewest.claim.stretches in
    ap Transfers (fewest.stretches ∙ sym count)
did_so start trace (NotFitting n) calls proper late same demanded =
    absurd
    (none_breaks start trace n
    (subst (λ l. KeepsWithin start.slots start.live l) same late.keeps) demanded)

-- ---- together

-- where nothing was written no slot is used and no address is live
none_live : AreLive (λ address. None) []
none_live = search (rules, none_sorted)

empty_start : (slots : ℕ) (state : State) → state ≡ formatted_state
    → IsStartOf slots state (unused_situation slots)
empty_start slots state same =
    subst (λ (s : State). IsStartOf slots s (unused_situation slots)) (sym same)
    (record { slots_are = refl; fill_is = refl; are_live = none_live })

empty_proper : (slots : ℕ) → IsProper (unused_situation slots)
empty_proper slots = record { held = omega arith; fits = omega arith }

-- a store beside a schedule, before the first change
both_begin : (device : Device) → state_of device ≡ formatted_state
    → IsBelow device 0 (unused_situation (slot_count device.size)) 0
both_begin device same = search (rules, empty_proper, none_live)

-- where the calls moved the map no more often than a line tells
wears : (cycles most : ℕ) (calls : List Call) (blank old new : Device) → IsFormatted blank old
    → IsWholeRun calls old new → transfers calls ≤ most → WearsAsTold cycles most calls old new
wears cycles most calls blank old new formats whole few =
    let none_waits : (state_of old).pending ≡ 0 = ap (λ (s : State). s.pending) formats.state_is in
    record {
      moves = few;
      wear = λ page h. omega (
        arith,
        few,
        no_page_wears_more_lem calls old new page whole formats.store.legal none_waits h,
      );
      enough = λ within page h.
          omega (
            arith,
            few,
            leb-true (erases_for most) cycles
                (and_parts (leb most most_transfers) (leb (erases_for most) cycles) within).1,
            no_page_wears_more_lem calls old new page whole formats.store.legal none_waits h,
          );
    }

both_plain : (calls : List Call) → All (λ call. is_cut call ≡ false) calls
    → All (λ call. is_of_several call ≡ false) calls → ArePlain calls
both_plain calls whole unlisted =
    λ place call here. (whole place call here, unlisted place call here)

-- the addresses of the script that is made so many times
all_proper : (words cycles runs : ℕ) (text told : List ℕ) (some_enough : Bool)
    (sized : IsSized words text cycles runs told some_enough)
    → AreProper (repeated_trace runs sized.needs.trace)
all_proper words cycles runs text told some_enough sized =
    search (rules, repeated_proper, trace_proper)

pub each_size_wears_as_told_lem : (text told : List ℕ) (cycles runs most : ℕ) (some_enough : Bool)
    (calls : List Call) (blank old new : Device)
    → (sized : IsSized old.size.words text cycles runs told some_enough)
    → IsDemandOf old.size.pages sized.demands (Transfers most) → IsFormatted blank old
    → IsWholeRun calls old new → All (λ call. is_of_several call ≡ false) calls
    → asked_by_calls calls ≡ repeated_trace runs sized.needs.trace → WearsAsTold cycles most calls old new
each_size_wears_as_told_lem text told cycles runs most some_enough calls blank old new sized line
    formats whole unlisted asked =
    let words = old.size.words in
    let trace = repeated_trace runs sized.needs.trace in
    let are =
    subst AreProper (sym asked) (all_proper words cycles runs text told some_enough sized) in
    let demanded =
    demanded_there words old.size.pages trace most sized.demands line sized.needs.demanded in
    let reached = demanded.1.reached in
    let few =
    bounded calls old new whole.run (both_plain calls whole.without_cuts unlisted) are
    (unused_situation (slot_count old.size)) reached.0 0 0 reached.1.allowed
    (reached.1.changes ∙ sym asked)
    (both_begin old formats.state_is) in
    wears cycles most calls blank old new formats whole (omega (arith, few, reached.2))

pub each_size_moves_as_told_lem : (text told : List ℕ) (cycles runs : ℕ) (some_enough : Bool)
    (calls : List Call) (blank old new : Device)
    → (sized : IsSized old.size.words text cycles runs told some_enough) → IsFormatted blank old
    → IsWholeRun calls old new → All (λ call. is_of_several call ≡ false) calls
    → made_by_calls calls ≡ repeated_trace runs sized.needs.trace
    → IsDemandOf old.size.pages sized.demands (Transfers (transfers calls))
    × WearsAsTold cycles (transfers calls) calls old new
each_size_moves_as_told_lem text told cycles runs some_enough calls blank old new sized formats
    whole unlisted made =
    let words = old.size.words in
    let slots = slot_count old.size in
    let trace = repeated_trace runs sized.needs.trace in
    let limits = formats.store.legal.2.formed.within_limits in
    let are =
    subst AreProper (sym made) (all_proper words cycles runs text told some_enough sized) in
    let late =
    late_calls calls old new (unused_situation slots) whole.run
    (both_plain calls whole.without_cuts unlisted) are
    (empty_start slots (state_of old) formats.state_is) (empty_proper slots) in
    let here =
    among words old.size.pages 1 trace sized.demands limits.some_pages
    (omega (arith, limits.few_pages, sized.needs.each_size)) sized.needs.demanded in
    let did =
    did_so (unused_situation slots) trace here.demand calls (empty_proper slots) late made
    here.demanded in
    let line : IsDemandOf old.size.pages sized.demands (Transfers (transfers calls)) =
    record {
      smaller = here.smaller;
      larger = here.larger;
      parts = here.parts ∙ ap (λ d. here.smaller ++ d ∷ here.larger) did;
      place = here.place;
    } in
    (line, wears cycles (transfers calls) calls blank old new formats whole (omega arith))

-- generations are left for so many transfers of a store that was just formatted
generations_left : (most : ℕ) (device : Device) → state_of device ≡ formatted_state
    → is_spent_by most ≡ false → (state_of device).generation + most ≤ greatest_generation
generations_left most device same left = search (rules, ltb-false)

pub each_size_is_made_as_told_lem : (text told : List ℕ) (cycles runs most : ℕ) (some_enough : Bool)
    (calls : List Call) (blank old new : Device)
    → (sized : IsSized old.size.words text cycles runs told some_enough)
    → IsDemandOf old.size.pages sized.demands (Transfers most) → IsFormatted blank old → IsOn old
    → IsWholeRun calls old new → All (λ call. is_of_several call ≡ false) calls
    → All (λ call. wants_memory call ≡ false) calls
    → asked_by_calls calls ≡ repeated_trace runs sized.needs.trace
    → ForgetsLive [] (repeated_trace runs sized.needs.trace) → is_spent_by most ≡ false
    → (made_by_calls calls ≡ repeated_trace runs sized.needs.trace) × (transfers calls ≡ most)
each_size_is_made_as_told_lem text told cycles runs most some_enough calls blank old new sized line
    formats on whole unlisted given asked held left =
    let words = old.size.words in
    let start = unused_situation (slot_count old.size) in
    let trace = repeated_trace runs sized.needs.trace in
    let are =
    subst AreProper (sym asked) (all_proper words cycles runs text told some_enough sized) in
    let demanded =
    demanded_there words old.size.pages trace most sized.demands line sized.needs.demanded in
    let late =
    late_moves start trace demanded.1.claim (empty_proper start.slots) demanded.1.tight in
    let cost_is : cost late.moves ≡ most = late.cost_is ∙ sym demanded.1.stretches in
    let all =
    all_made calls old new whole.run (both_plain calls whole.without_cuts unlisted) given are
    start late.moves (record {
      on = on;
      start = empty_start start.slots (state_of old) formats.state_is;
      proper = empty_proper start.slots;
      late = late.late;
      changes_are = late.changes_are ∙ sym asked;
      keeps = subst (λ l. KeepsWithin start.slots start.live l) (sym asked) demanded.0;
      held = subst (λ l. ForgetsLive start.live l) (sym asked) held;
      left = let a = generations_left most old formats.state_is left in omega (arith, a, cost_is);
    }) in
    (all.all ∙ asked, all.count ∙ cost_is)
