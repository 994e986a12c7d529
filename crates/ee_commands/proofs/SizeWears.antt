-- What the least and the limit of a size say, and that neither is above the number that follows it.
use Rattle.std.proofs.Common.{◌≡◌, ℕ, zero, suc, ◌+◌, ◌*◌, ◌-◌, ◌/◌, ◌<◌, ◌≤◌, List, [], ◌∷◌, length, subst, ap, arith, rules}
use Rattle.std.proofs.Math.Nat.{div-lt_iff_lt-mul, div-zero, mul-le-mul_left}
use Rattle.std.proofs.lemmas.Bool.{cases_eq}
use Rattle.ee_flash.proofs.Public.{some_page_wears_lem}
use Rattle.ee_flash.specs.Endurance.{erases_of, least_wear}
use Rattle.ee_flash.specs.Size.{Size, page_count, size_of, slot_count}
use Rattle.ee_check.proofs.Public.{changed-le}
use Rattle.ee_check.specs.declared.change.Change.{Change}
use Rattle.ee_check.specs.Schedule.{Append, Carry, Copy, EachMove, IsAllowed, IsProper, Move, Situation, after_move, changes_of, cost}
use Rattle.ee_plan.proofs.Public.{fewest_transfers_wear_lem}
use Rattle.ee_plan.specs.Planner.Rounds.{IsFewest, unused_situation}
use Rattle.ee_plan.specs.declared.planner.demand.Demand.{Demand}
use Rattle.ee_plan.specs.declared.planner.demand.Demand.TheVariants.{Transfers, NotFitting}
use Rattle.ee_commands.specs.Sizing.{AreDemands, AreWears, EachWears, limit_for, least_for}
use Rattle.ee_commands.proofs.AskedRuns.{carried_fits}

-- ---- how many changes so many transfers take

-- between its transfers a schedule makes no more changes than a set has slots, and each transfer
-- carries one at the most
changes_in_slots : (moves : List Move) (start : Situation) → IsProper start
    → EachMove IsAllowed start moves
    → length (changes_of moves) + start.fill ≤ start.slots + (start.slots + 1) * cost moves
changes_in_slots [] start proper allowed = omega (arith, proper.fits)
changes_in_slots (Copy ∷ moves) start proper allowed =
    let copied : IsProper (after_move start Copy) = record {
      held = omega arith;
      fits = let a = proper.held in
          let b = proper.fits in omega arith;
    } in
    let behind = changes_in_slots moves (after_move start Copy) copied allowed.1 in
    omega (arith, behind, proper.fits)
changes_in_slots (Append change ∷ moves) start proper allowed =
    let longer = changed-le start.live change in
    let kept : IsProper (after_move start (Append change)) = record {
      held =
          let a = proper.held in omega arith;
      fits = let a = allowed.0 in omega arith;
    } in
    let behind = changes_in_slots moves (after_move start (Append change)) kept allowed.1 in
    omega (arith, behind)
changes_in_slots (Carry change ∷ moves) start proper allowed =
    let kept : IsProper (after_move start (Carry change)) =
    record { held = omega arith; fits = carried_fits start change allowed.0 proper } in
    let behind = changes_in_slots moves (after_move start (Carry change)) kept allowed.1 in
    omega (arith, behind, proper.fits)

-- ---- the limit is below the least

below : (changes transfers slots words : ℕ) → changes ≤ slots + (slots + 1) * transfers
    → (slots + 1) * 2 ≤ words → (changes - 1) / words ≤ transfers / 2
below changes transfers slots words few room =
    let half = transfers / 2 in
    let twice : (slots + 1) * (transfers + 1) ≤ (slots + 1) * (2 * (half + 1)) =
    mul-le-mul_left (slots + 1) (omega arith) in
    let more : (half + 1) * ((slots + 1) * 2) ≤ (half + 1) * words =
    mul-le-mul_left (half + 1) room in
    let there : changes - 1 < (half + 1) * words = omega (arith, few, twice, more) in
    let some : zero < words = omega (arith, room) in
    let less = (div-lt_iff_lt-mul some).1 there in
    omega (arith, less)

-- both sets have two words more than twice their slots
wide : (pages words : ℕ) → ¬ (pages * words ≡ 0) → (pages * (words - 4) + 1) * 2 ≤ 2 * pages * words
wide pages zero some = absurd (some (omega arith))
wide pages (suc others) some = search (rules, cases_eq, mul-le-mul_left)

limit_below : (pages words changes transfers : ℕ)
    → changes ≤ pages * (words - 4) + (pages * (words - 4) + 1) * transfers
    → limit_for pages words changes ≤ least_for transfers
limit_below pages words changes transfers few = search (rules, below, cases_eq, div-zero, wide)

-- ---- each size

wears_of : (pages words : ℕ) (trace : List Change) (transfers : ℕ)
    → IsFewest (unused_situation (slot_count (size_of pages words))) trace transfers
    → AreWears pages words trace transfers
wears_of pages words trace transfers fewest =
    let start = unused_situation (slot_count (size_of pages words)) in
    let reached = fewest.reached in
    let counted =
    changes_in_slots reached.0 start (record { held = omega arith; fits = omega arith })
    reached.1.allowed in
    let whole : length (changes_of reached.0) ≡ length trace = ap length reached.1.changes in
    let few : length trace ≤ pages * (words - 4) + (pages * (words - 4) + 1) * transfers =
    subst (λ n. length trace ≤ pages * (words - 4) + (pages * (words - 4) + 1) * n) reached.2
    (omega (arith, counted, whole)) in
    record {
      least = fewest_transfers_wear_lem start trace transfers fewest.fewest;
      limit = λ steps device taken sized enough.
          subst
          (λ (size : Size). (page : ℕ) × (page < page_count device.size)
          × (least_wear size (length trace) ≤ erases_of page steps)) sized
          (some_page_wears_lem (length trace) steps device taken enough);
      limit_below = limit_below pages words (length trace) transfers few;
      least_below = omega arith;
    }

pub each_wears : (words : ℕ) (trace : List Change) (pages : ℕ) (demands : List Demand)
    → AreDemands words trace pages demands → EachWears words trace pages demands
each_wears words trace pages [] are = tt
each_wears words trace pages (Transfers transfers ∷ demands) are =
    (wears_of pages words trace transfers are.0.1, each_wears words trace (pages + 1) demands are.1)
each_wears words trace pages (NotFitting n ∷ demands) are =
    (tt, each_wears words trace (pages + 1) demands are.1)
