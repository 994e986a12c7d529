-- Calls of a store move the map as the store does that transfers exactly when each slot is used.
use Rattle.std.proofs.Common.{◌≡◌, ◌∙◌, ℕ, zero, suc, ◌+◌, ◌<◌, ◌≤◌, Bool, true, false, cond, Ok, List, [], ◌∷◌, ◌++◌, length, map, refl, sym, subst, ap, arith, rules}
use Rattle.std.proofs.lemmas.Grind.{common_steps}
use Rattle.std.proofs.lemmas.List.Elements.{All-tail}
use Rattle.std.proofs.lemmas.List.Sums.{sum_by-cons}
use Rattle.std.specs.List.{All, AllByRecursion}
use Rattle.ee_flash.specs.Device.{Device}
use Rattle.ee_flash.specs.Size.{Size, slot_count}
use Rattle.ee_codec.specs.Words.{IsAddress}
use Rattle.ee_pages.specs.Meaning.{Put}
use Rattle.ee_pages.specs.Meaning as meaning
use Rattle.ee_core.proofs.Public.{by_effect}
use Rattle.ee_core.specs.Calls.{ErasesOne}
use Rattle.ee_core.specs.Changes.{Appends, HasNoPlace, Moves}
use Rattle.ee_core.specs.Runs.{Call, Cleaned, IsRun, changes_of_call, is_cut, is_transfer, transfers}
use Rattle.ee_core.specs.Runs as core
use Rattle.ee_core.specs.State.{State, state_of}
use Rattle.ee_check.proofs.Public.{changed-le}
use Rattle.ee_check.specs.declared.change.Change.{Change}
use Rattle.ee_check.specs.declared.change.Change.TheVariants as changes
use Rattle.ee_check.specs.Live.{KeepsWithin, live_after_one}
use Rattle.ee_check.specs.Schedule.{Append, Carry, EachMove, IsLate, IsProper, Move, Situation, after_move, carried_at, changes_of}
use Rattle.ee_plan.proofs.PlannerLemmas.Public.{keeps_more}
use Rattle.ee_plan.proofs.Public.{live_after_forget, live_after_put, appends, forgetting_fits, moves_on, start_stays, write_fits}
use Rattle.ee_plan.specs.Planner.Rounds.{repeated_trace}
use Rattle.ee_plan.specs.Start.{AreLive, IsStartOf}
use Rattle.ee_interface.specs.declared.script.command.Command.{Command}
use Rattle.ee_interface.specs.declared.script.command.Command.TheVariants as command
use Rattle.ee_commands.specs.Planning.{IsTraceCommand}
use Rattle.ee_commands.specs.ToldSizes.{is_of_several, made_by_calls}
use Rattle.ee_image_store.specs.Trace.{trace_of}

-- ---- the addresses of a script

-- each address that is written is proper
abbrev pub AreProper : List Change → Type 0
AreProper [] = Unit {0}
AreProper (changes.Write address ∷ trace) = IsAddress address × AreProper trace
AreProper (changes.Forget address ∷ trace) = AreProper trace

pub trace_proper : (commands : List Command) → AllByRecursion IsTraceCommand commands
    → AreProper (trace_of commands)
trace_proper [] are = tt
trace_proper (command.Write address value ∷ commands) are = (are.0.0.0, trace_proper commands are.1)
trace_proper (command.Forget address ∷ commands) are = trace_proper commands are.1
trace_proper (command.Read address ∷ commands) are = trace_proper commands are.1
trace_proper (command.Clean ∷ commands) are = trace_proper commands are.1
trace_proper (command.Arm fuse ∷ commands) are = trace_proper commands are.1
trace_proper (command.PowerOn ∷ commands) are = trace_proper commands are.1

both_proper : (trace more : List Change) → AreProper trace → AreProper more
    → AreProper (trace ++ more)
both_proper [] more are behind = behind
both_proper (changes.Write address ∷ trace) more are behind =
    (are.0, both_proper trace more are.1 behind)
both_proper (changes.Forget address ∷ trace) more are behind = both_proper trace more are behind

pub repeated_proper : (runs : ℕ) (trace : List Change) → AreProper trace
    → AreProper (repeated_trace runs trace)
repeated_proper zero trace are = tt
repeated_proper (suc more) trace are =
    both_proper trace (repeated_trace more trace) are (repeated_proper more trace are)

-- ---- calls of a store that transfers when it must

-- The calls made their changes by moves of the late store, of which as many carry a change as
-- calls moved the map.
pub record IsLateOf (start : Situation) (calls : List Call) : Type 0 where
  pub moves : List Move
  pub changes_are : changes_of moves ≡ made_by_calls calls
  pub late : EachMove IsLate start moves
  pub keeps : KeepsWithin start.slots start.live (made_by_calls calls)
  pub carried : (n : ℕ) → length (carried_at n moves) ≡ transfers calls

pub counted : (call : Call) (calls : List Call)
    → transfers (call ∷ calls) ≡ cond (is_transfer call) 1 0 + transfers calls
counted call calls = sum_by-cons (λ (one : Call). cond (is_transfer one) 1 0) call calls

pub not_counted : (call : Call) (calls : List Call) → is_transfer call ≡ false
    → transfers (call ∷ calls) ≡ transfers calls
not_counted call calls still = search (rules, counted)

-- a call that changes nothing goes before
none_first : (start : Situation) (call : Call) (calls : List Call)
    → made_by_calls (call ∷ calls) ≡ made_by_calls calls → is_transfer call ≡ false
    → IsLateOf start calls → IsLateOf start (call ∷ calls)
none_first start call calls same still late = search (rules, not_counted)

-- an append goes before
append_first : (start : Situation) (call : Call) (calls : List Call) (change : Change)
    → made_by_calls (call ∷ calls) ≡ change ∷ made_by_calls calls → is_transfer call ≡ false
    → start.fill < start.slots → length (live_after_one start.live change) ≤ start.slots
    → IsLateOf (after_move start (Append change)) calls → IsLateOf start (call ∷ calls)
append_first start call calls change one still free fits late =
    let count : transfers (call ∷ calls) ≡ transfers calls = not_counted call calls still in
    record {
      moves = Append change ∷ late.moves;
      changes_are = ap (λ l. change ∷ l) late.changes_are ∙ sym one;
      late = (free, late.late);
      keeps =
          subst (λ l. KeepsWithin start.slots start.live l) (sym one)
          (keeps_more start.slots start.live change (made_by_calls calls) fits late.keeps);
      carried = λ n. late.carried (n + 1) ∙ sym count;
    }

-- a move goes before
carry_first : (start : Situation) (call : Call) (calls : List Call) (change : Change)
    → made_by_calls (call ∷ calls) ≡ change ∷ made_by_calls calls → is_transfer call ≡ true
    → start.fill ≡ start.slots → length (live_after_one start.live change) ≤ start.slots
    → IsLateOf (after_move start (Carry change)) calls → IsLateOf start (call ∷ calls)
carry_first start call calls change one moved used fits late =
    let count : transfers (call ∷ calls) ≡ 1 + transfers calls =
    counted call calls ∙ ap (λ b. cond b 1 0 + transfers calls) moved in
    record {
      moves = Carry change ∷ late.moves;
      changes_are = ap (λ l. change ∷ l) late.changes_are ∙ sym one;
      late = (used, late.late);
      keeps =
          subst (λ l. KeepsWithin start.slots start.live l) (sym one)
          (keeps_more start.slots start.live change (made_by_calls calls) fits late.keeps);
      carried = λ n. omega (arith, late.carried (n + 1), count);
    }

-- this is what a device's store gives to start from
abbrev Starts : Device → Situation → Type 0
Starts device start = IsStartOf (slot_count device.size) (state_of device) start

starts_at : (old mid : Device) (start : Situation) → mid.size ≡ old.size
    → IsStartOf (slot_count old.size) (state_of mid) start → Starts mid start
starts_at old mid start same is =
    subst (λ (size : Size). IsStartOf (slot_count size) (state_of mid) start) (sym same) is

-- what follows is the late store's, from where this device stands
abbrev Follows : Device → Situation → List Call → Type 0
Follows device start calls = Starts device start → IsProper start → IsLateOf start calls

-- a call that leaves the map and the slots as they were, and what follows
stays_then : (old mid : Device) (start : Situation) (call : Call) (calls : List Call)
    → made_by_calls (call ∷ calls) ≡ made_by_calls calls → is_transfer call ≡ false
    → mid.size ≡ old.size → (state_of mid).map ≡ (state_of old).map
    → (state_of mid).fill ≡ (state_of old).fill → Starts old start → IsProper start
    → Follows mid start calls → IsLateOf start (call ∷ calls)
stays_then old mid start call calls none still sized same_map same_fill is proper follows =
    grind (arith, common_steps, none_first, start_stays)

-- an append, and what follows
append_then : (old mid : Device) (start : Situation) (call : Call) (calls : List Call)
    (change : Change) (meant : meaning.Change)
    → made_by_calls (call ∷ calls) ≡ change ∷ made_by_calls calls → is_transfer call ≡ false
    → Appends old meant mid → (is : Starts old start)
    → AreLive (meaning.map_after meant (state_of old).map) (live_after_one start.live change)
    → IsProper start → Follows mid (after_move start (Append change)) calls
    → IsLateOf start (call ∷ calls)
append_then old mid start call calls change meant one still done is live proper follows =
    let free : start.fill < start.slots = let a = is.fill_is in
    let b = is.slots_are in
    let c = done.free in omega arith in
    let more = changed-le start.live change in
    let held = proper.held in
    let fits : length (live_after_one start.live change) ≤ start.slots =
    omega (arith, free, more, held) in
    let kept : IsProper (after_move start (Append change)) =
    record { held = omega (arith, more, held); fits = omega (arith, free) } in
    let here =
    appends old.size (state_of old) (state_of mid) start change meant done.state_is live is in
    let there = starts_at old mid (after_move start (Append change)) done.goes_on.same_size here in
    append_first start call calls change one still free fits (follows there kept)

-- a move, and what follows
carry_then : (old mid : Device) (start : Situation) (call : Call) (calls : List Call)
    (change : Change) (meant : meaning.Change)
    → made_by_calls (call ∷ calls) ≡ change ∷ made_by_calls calls → is_transfer call ≡ true
    → Moves old (meant ∷ []) mid → (is : Starts old start)
    → AreLive (meaning.map_after meant (state_of old).map) (live_after_one start.live change)
    → length (live_after_one start.live change) ≤ start.slots
    → Follows mid (after_move start (Carry change)) calls → IsLateOf start (call ∷ calls)
carry_then old mid start call calls change meant one moved done is live fits follows =
    let used : start.fill ≡ start.slots = let a = is.fill_is in
    let b = is.slots_are in
    let c = done.needed in omega arith in
    let kept : IsProper (after_move start (Carry change)) =
    record { held = omega arith; fits = fits } in
    let here =
    moves_on old.size (state_of old) (state_of mid) start change meant done.state_is live is in
    let there = starts_at old mid (after_move start (Carry change)) done.goes_on.same_size here in
    carry_first start call calls change one moved used fits (follows there kept)

-- power was not cut in the call, and it is not of a list, nor a clear
abbrev pub IsPlain : Call → Type 0
IsPlain call = (is_cut call ≡ false) × (is_of_several call ≡ false)

abbrev pub ArePlain : List Call → Type 0
ArePlain calls = All IsPlain calls

pub plain_behind : (call : Call) (calls : List Call) → ArePlain (call ∷ calls) → ArePlain calls
plain_behind call calls whole = All-tail IsPlain call calls whole

-- it made one change at the most
one_made : (call : Call) → is_of_several call ≡ false → length (changes_of_call call) ≤ 1
one_made call h1 = search (rules, arith)

one_moved : (holds : Bool → List meaning.Change → Type 0) (old new : Device)
    (moved : List meaning.Change)
    → length moved ≤ 1 → Moves old moved new
    → ((change : meaning.Change) → Moves old (change ∷ []) new → holds true (change ∷ []))
    → holds true moved
one_moved holds old new [] short done moves = absurd done.needed
one_moved holds old new (change ∷ []) short done moves = moves change done
one_moved holds old new (first ∷ second ∷ more) short done moves = absurd (omega (arith, short))

-- so what it did is one of four things, of which a move is with one change
pub by_one_change : (holds : Bool → List meaning.Change → Type 0) (call : Call) (old new : Device)
    → IsPlain call → core.Follows call old new → (new ≡ old → holds false [])
    → ((change : meaning.Change) → Appends old change new → holds false (change ∷ []))
    → ((change : meaning.Change) → Moves old (change ∷ []) new → holds true (change ∷ []))
    → (call ≡ Cleaned (Ok true) → ErasesOne old new → holds false [])
    → holds (is_transfer call) (changes_of_call call)
by_one_change holds call old new plain done nothing appends moves erases =
    by_effect (λ transfer made. length made ≤ 1 → holds transfer made) call old new plain.0 done
    (λ same short. nothing same) (λ change one short. appends change one)
    (λ made several short. one_moved holds old new made short several moves)
    (λ cleaned erased short. erases cleaned erased) (one_made call plain.1)

-- a change of the map, as a change of a trace
abbrev pub traced : meaning.Change → Change
traced (Put address value) = changes.Write address
traced (meaning.Forget address) = changes.Forget address

-- what a call made comes before what the calls behind it made
made_first : (call : Call) (calls : List Call) → is_of_several call ≡ false
    → made_by_calls (call ∷ calls) ≡ map traced (changes_of_call call) ++ made_by_calls calls
made_first call calls h1 = search rules

pub behind_proper : (change : Change) (trace : List Change) → AreProper (change ∷ trace)
    → AreProper trace
behind_proper (changes.Write address) trace are = are.1
behind_proper (changes.Forget address) trace are = are

pub live_after : (change : meaning.Change) (trace : List Change) (wide : meaning.Map)
    (live : List ℕ)
    → AreProper (traced change ∷ trace) → AreLive wide live
    → AreLive (meaning.map_after change wide) (live_after_one live (traced change))
live_after (Put address value) trace wide live are is =
    live_after_put wide live address value are.0 is
live_after (meaning.Forget address) trace wide live are is = live_after_forget wide live address is

-- an accepted change leaves no more live addresses than there are slots
change_fits : (slots : ℕ) (state : State) (start : Situation) (change : meaning.Change)
    (trace : List Change)
    → AreProper (traced change ∷ trace) → IsStartOf slots state start → IsProper start
    → ¬ HasNoPlace slots state change
    → length (live_after_one start.live (traced change)) ≤ start.slots
change_fits slots state start (Put address value) trace are is proper has_place =
    write_fits slots state start address value are.0 is proper has_place
change_fits slots state start (meaning.Forget address) trace are is proper has_place =
    forgetting_fits start address proper

pub late_calls : (calls : List Call) (old new : Device) (start : Situation) → IsRun calls old new
    → ArePlain calls → AreProper (made_by_calls calls) → Starts old start → IsProper start
    → IsLateOf start calls
late_calls [] old new start run whole are is proper =
    record { moves = []; changes_are = refl; late = tt; keeps = tt; carried = λ n. refl }
late_calls (call ∷ calls) old new start run whole are is proper =
    let mid = run.0 in
    let trace = made_by_calls calls in
    let made = made_first call calls (whole 0 call (omega arith)).1 in
    let later : (next : Situation) → AreProper trace → Follows mid next calls =
    λ next behind here kept.
    late_calls calls mid new next run.2 (plain_behind call calls whole) behind here kept in
    by_one_change
    (λ transfer list. is_transfer call ≡ transfer
    → made_by_calls (call ∷ calls) ≡ map traced list ++ trace
    → AreProper (map traced list ++ trace) → IsLateOf start (call ∷ calls))
    call old mid (whole 0 call (omega arith)) run.1
    (λ same still none these. stays_then old mid start call calls none still
    (ap (λ (d : Device). d.size) same) (ap (λ (d : Device). (state_of d).map) same)
    (ap (λ (d : Device). (state_of d).fill) same) is proper (later start these))
    (λ change done still one these. append_then old mid start call calls (traced change) change one
    still done is (live_after change trace (state_of old).map start.live these is.are_live)
    proper
    (later (after_move start (Append (traced change))) (behind_proper (traced change) trace these)))
    (λ change done moved one these. carry_then old mid start call calls (traced change) change one
    moved done is (live_after change trace (state_of old).map start.live these is.are_live)
    (change_fits (slot_count old.size) (state_of old) start change trace these is proper
    done.proceeds.accepted.has_place)
    (later (after_move start (Carry (traced change))) (behind_proper (traced change) trace these)))
    (λ cleaned done still none these. stays_then old mid start call calls none still
    done.goes_on.same_size (ap (λ (s : State). s.map) done.state_is)
    (ap (λ (s : State). s.fill) done.state_is) is proper (later start these))
    refl made (subst AreProper made are)
