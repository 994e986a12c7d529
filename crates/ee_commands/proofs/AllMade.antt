-- A store makes every change that it is asked for, as the late store does, while the changes fit
-- and generations are left.
use Rattle.std.proofs.Common.{◌≡◌, ◌∙◌, ℕ, ◌+◌, ◌<◌, ◌≤◌, true, false, cond, Ok, Err, None, List, [], ◌∷◌, length, refl, sym, subst, ap, arith, rules}
use Rattle.std.proofs.lemmas.List.Elements.{All-tail}
use Rattle.std.specs.List.{All}
use Rattle.ee_flash.specs.Device.{Device, IsOn}
use Rattle.ee_flash.specs.Size.{Size, slot_count}
use Rattle.ee_codec.specs.Words.{IsAddress}
use Rattle.ee_pages.specs.Meaning.{Put}
use Rattle.ee_pages.specs.Meaning as meaning
use Rattle.ee_core.specs.Changes.{Appends, IsSpent, Moves, greatest_generation}
use Rattle.ee_core.specs.Runs.{Call, Wrote, WroteAll, Forgot, Cleared, Cleaned, DidRead, IsRun, is_cut, is_transfer, transfers}
use Rattle.ee_core.specs.State.{State, state_of}
use Rattle.ee_core.specs.declared.variables.ForgetFault.TheVariants as forget
use Rattle.ee_core.specs.declared.variables.WriteFault.TheVariants as write
use Rattle.ee_core.specs.declared.variables.Written.TheVariants.{Appended, Moved}
use Rattle.ee_check.proofs.Public.{changed-le}
use Rattle.ee_check.specs.declared.change.Change.{Change}
use Rattle.ee_check.specs.declared.change.Change.TheVariants as changes
use Rattle.ee_check.specs.Live.{KeepsWithin, live_after_one}
use Rattle.ee_check.specs.Schedule.{Append, Carry, Copy, EachMove, IsLate, IsProper, Move, Situation, after_move, changes_of, cost}
use Rattle.ee_plan.proofs.PlannerLemmas.Public.{keeps_tail}
use Rattle.ee_plan.proofs.Public.{live_after_forget, live_after_put, appends, forgetting_fits, moves_on, not_full, start_stays}
use Rattle.ee_plan.specs.Start.{AreLive, IsStartOf}
use Rattle.ee_commands.specs.ToldSizes.{ForgetsLive, asked_by_calls, is_of_several, made_by_calls, wants_memory}
use Rattle.ee_commands.proofs.MadeRuns.{ArePlain, AreProper, counted, not_counted, plain_behind}
use Rattle.ee_core.proofs.Public.{not_both}

-- ---- the late store's next move

record IsNext (now : Situation) (change : Change) (later : List Change) (moves : List Move)
    : Type 0 where
  more : List Move
  changes_are : changes_of more ≡ later
  appended : now.fill < now.slots
      → EachMove IsLate (after_move now (Append change)) more × (cost moves ≡ cost more)
  carried : now.fill ≡ now.slots
      → EachMove IsLate (after_move now (Carry change)) more × (cost moves ≡ cost more + 1)

next : (moves : List Move) (now : Situation) (change : Change) (later : List Change)
    → EachMove IsLate now moves → changes_of moves ≡ change ∷ later → IsNext now change later moves
next [] now change later late same = absurd cc
next (Copy ∷ moves) now change later late same = absurd late.0
next (Append first ∷ moves) now change later late same = search rules
next (Carry first ∷ moves) now change later late same = search rules

-- ---- where a store stands beside the late store

held_behind : (live : List ℕ) (change : Change) (trace : List Change)
    → ForgetsLive live (change ∷ trace) → ForgetsLive (live_after_one live change) trace
held_behind live (changes.Write address) trace held = held
held_behind live (changes.Forget address) trace held = held.1

still_fits : (now : Situation) (change : Change) (trace : List Change) → IsProper now
    → KeepsWithin now.slots now.live (change ∷ trace)
    → length (live_after_one now.live change) ≤ now.slots
still_fits now (changes.Write address) trace proper keeps = keeps.0
still_fits now (changes.Forget address) trace proper keeps = forgetting_fits now address proper

-- the calls ask for what the late store does from here by these moves, and a generation is left for
-- each of its transfers
pub record IsAt (device : Device) (now : Situation) (moves : List Move) (trace : List Change)
    : Type 0 where
  pub on : IsOn device
  pub start : IsStartOf (slot_count device.size) (state_of device) now
  pub proper : IsProper now
  pub late : EachMove IsLate now moves
  pub changes_are : changes_of moves ≡ trace
  pub keeps : KeepsWithin now.slots now.live trace
  pub held : ForgetsLive now.live trace
  pub left : (state_of device).generation + cost moves ≤ greatest_generation

-- they make it, by as many transfers
pub record IsAllMade (calls : List Call) (moves : List Move) : Type 0 where
  pub all : made_by_calls calls ≡ asked_by_calls calls
  pub count : transfers calls ≡ cost moves

abbrev MakesAll : Device → List Call → Type 0
MakesAll device calls =
    (now : Situation) (moves : List Move) → IsAt device now moves (asked_by_calls calls)
    → IsAllMade calls moves

-- a generation is left for the transfer to come
never_spent : (old : Device) (now : Situation) (moves : List Move) (change : Change)
    (later : List Change)
    → IsAt old now moves (change ∷ later) → IsSpent (slot_count old.size) (state_of old) → ⊥
never_spent old now moves change later here spent =
    let turn = next moves now change later here.late here.changes_are in
    let used : now.fill ≡ now.slots =
    here.start.fill_is ∙ spent.all_used ∙ sym here.start.slots_are in
    absurd (omega (arith, here.left, spent.last_generation, (turn.carried used).1))

module _ (old mid : Device) (call : Call) (calls : List Call) where
  -- a call that asks for nothing
  asks_nothing : asked_by_calls (call ∷ calls) ≡ asked_by_calls calls
      → made_by_calls (call ∷ calls) ≡ made_by_calls calls → is_transfer call ≡ false
      → mid.on ≡ old.on → mid.size ≡ old.size → (state_of mid).map ≡ (state_of old).map
      → (state_of mid).fill ≡ (state_of old).fill
      → (state_of mid).generation ≡ (state_of old).generation → MakesAll mid calls
      → MakesAll old (call ∷ calls)
  asks_nothing asked made still power sized map filled generation then =
      search (rules, not_counted, start_stays)

  -- a call that leaves the device as it was
  changes_nothing : asked_by_calls (call ∷ calls) ≡ asked_by_calls calls
      → made_by_calls (call ∷ calls) ≡ made_by_calls calls → is_transfer call ≡ false → mid ≡ old
      → MakesAll mid calls → MakesAll old (call ∷ calls)
  changes_nothing asked made still same then = search (rules, asks_nothing)

  module _ (change : Change) (meant : meaning.Change)
      (asked : asked_by_calls (call ∷ calls) ≡ change ∷ asked_by_calls calls)
      (made : made_by_calls (call ∷ calls) ≡ change ∷ made_by_calls calls)
      (keeps : (now : Situation) → IsStartOf (slot_count old.size) (state_of old) now
      → AreLive (meaning.map_after meant (state_of old).map)
      (live_after_one now.live change)) where
    appends_all : is_transfer call ≡ false → Appends old meant mid → MakesAll mid calls
        → MakesAll old (call ∷ calls)
    appends_all still done then = λ now moves before.
        let here = subst (λ l. IsAt old now moves l) asked before in
        let turn = next moves now change (asked_by_calls calls) here.late here.changes_are in
        let free : now.fill < now.slots = let a = here.start.fill_is in
        let b = here.start.slots_are in
        let c = done.free in omega arith in
        let more = changed-le now.live change in
        let moved_on =
        appends old.size (state_of old) (state_of mid) now change meant done.state_is
        (keeps now here.start) here.start in
        let late = turn.appended free in
        let generation : (state_of mid).generation ≡ (state_of old).generation =
        ap (λ (s : State). s.generation) done.state_is in
        let there : IsAt mid (after_move now (Append change)) turn.more (asked_by_calls calls) =
        record {
          on = done.goes_on.same_power ∙ here.on;
          start =
              subst
              (λ (size : Size).
              IsStartOf (slot_count size) (state_of mid) (after_move now (Append change)))
              (sym done.goes_on.same_size) moved_on;
          proper = record { held = let a = here.proper.held in omega arith; fits = omega arith };
          late = late.0;
          changes_are = turn.changes_are;
          keeps = keeps_tail now.slots now.live change (asked_by_calls calls) here.keeps;
          held = held_behind now.live change (asked_by_calls calls) here.held;
          left = omega (arith, here.left, generation, late.1);
        } in
        let behind = then (after_move now (Append change)) turn.more there in
        record {
          all = made ∙ ap (λ l. change ∷ l) behind.all ∙ sym asked;
          count = not_counted call calls still ∙ behind.count ∙ sym late.1;
        }

    moves_all : is_transfer call ≡ true → Moves old (meant ∷ []) mid → MakesAll mid calls
        → MakesAll old (call ∷ calls)
    moves_all turns done then = λ now moves before.
        let here = subst (λ l. IsAt old now moves l) asked before in
        let turn = next moves now change (asked_by_calls calls) here.late here.changes_are in
        let used : now.fill ≡ now.slots = let a = here.start.fill_is in
        let b = here.start.slots_are in
        let c = done.needed in omega arith in
        let moved_on =
        moves_on old.size (state_of old) (state_of mid) now change meant done.state_is
        (keeps now here.start) here.start in
        let late = turn.carried used in
        let generation : (state_of mid).generation ≡ (state_of old).generation + 1 =
        ap (λ (s : State). s.generation) done.state_is in
        let there : IsAt mid (after_move now (Carry change)) turn.more (asked_by_calls calls) =
        record {
          on = done.goes_on.same_power ∙ here.on;
          start =
              subst
              (λ (size : Size).
              IsStartOf (slot_count size) (state_of mid) (after_move now (Carry change)))
              (sym done.goes_on.same_size) moved_on;
          proper = record {
            held = omega arith;
            fits = still_fits now change (asked_by_calls calls) here.proper here.keeps;
          };
          late = late.0;
          changes_are = turn.changes_are;
          keeps = keeps_tail now.slots now.live change (asked_by_calls calls) here.keeps;
          held = held_behind now.live change (asked_by_calls calls) here.held;
          left = omega (arith, here.left, generation, late.1);
        } in
        let behind = then (after_move now (Carry change)) turn.more there in
        let one : transfers (call ∷ calls) ≡ 1 + transfers calls =
        counted call calls ∙ ap (λ b. cond b 1 0 + transfers calls) turns in
        record {
          all = made ∙ ap (λ l. change ∷ l) behind.all ∙ sym asked;
          count = omega (arith, one, behind.count, late.1);
        }

-- ---- a run

abbrev NoneWants : List Call → Type 0
NoneWants calls = All (λ call. wants_memory call ≡ false) calls

given_behind : (call : Call) (calls : List Call) → NoneWants (call ∷ calls) → NoneWants calls
given_behind call calls given = All-tail (λ (one : Call). wants_memory one ≡ false) call calls given

none_left : (moves : List Move) (now : Situation) → EachMove IsLate now moves
    → changes_of moves ≡ [] → cost moves ≡ 0
none_left [] now late same = refl
none_left (Copy ∷ moves) now late same = absurd late.0
none_left (Append change ∷ moves) now late same = absurd cc
none_left (Carry change ∷ moves) now late same = absurd cc

abbrev PutsAt : Device → ℕ → ℕ → Type 0
PutsAt old address value = (now : Situation) → IsStartOf (slot_count old.size) (state_of old) now
    → AreLive (meaning.map_after (Put address value) (state_of old).map)
    (live_after_one now.live (changes.Write address))

puts : (old : Device) (address value : ℕ) → IsAddress address → PutsAt old address value
puts old address value proper =
    λ now start. live_after_put (state_of old).map now.live address value proper start.are_live

abbrev ForgetsAt : Device → ℕ → Type 0
ForgetsAt old address = (now : Situation) → IsStartOf (slot_count old.size) (state_of old) now
    → AreLive (meaning.map_after (meaning.Forget address) (state_of old).map)
    (live_after_one now.live (changes.Forget address))

forgets : (old : Device) (address : ℕ) → ForgetsAt old address
forgets old address =
    λ now start. live_after_forget (state_of old).map now.live address start.are_live

never_absent : (old : Device) (now : Situation) (moves : List Move) (address : ℕ)
    (later : List Change)
    → IsAt old now moves (changes.Forget address ∷ later) → (state_of old).map address ≡ None → ⊥
never_absent old now moves address later here absent = search rules

pub all_made : (calls : List Call) (old new : Device) → IsRun calls old new → ArePlain calls
    → NoneWants calls → AreProper (asked_by_calls calls) → MakesAll old calls
all_made [] old new run whole given are =
    λ now moves here.
    record { all = refl; count = sym (none_left moves now here.late here.changes_are) }
all_made (Wrote address value (Ok Appended) ∷ calls) old new run whole given are =
    let call = Wrote address value (Ok Appended) in
    appends_all old run.0 call calls (changes.Write address) (Put address value) refl refl
    (puts old address value are.0) refl run.1
    (all_made calls run.0 new run.2 (plain_behind call calls whole) (given_behind call calls given)
    are.1)
all_made (Wrote address value (Ok Moved) ∷ calls) old new run whole given are =
    let call = Wrote address value (Ok Moved) in
    moves_all old run.0 call calls (changes.Write address) (Put address value) refl refl
    (puts old address value are.0) refl run.1
    (all_made calls run.0 new run.2 (plain_behind call calls whole) (given_behind call calls given)
    are.1)
all_made (Wrote address value (Err write.Off) ∷ calls) old new run whole given are =
    λ now moves here. absurd (not_both old here.on run.1.0)
all_made (Wrote address value (Err write.Full) ∷ calls) old new run whole given are =
    λ now moves here.
    absurd
    (not_full (slot_count old.size) (state_of old) now address are.0 here.start here.keeps.0
    run.1.1)
all_made (Wrote address value (Err write.Spent) ∷ calls) old new run whole given are =
    λ now moves here.
    absurd (never_spent old now moves (changes.Write address) (asked_by_calls calls) here run.1.2)
all_made (Wrote address value (Err write.Memory) ∷ calls) old new run whole given are =
    let none : wants_memory (Wrote address value (Err write.Memory)) ≡ false =
    given 0 (Wrote address value (Err write.Memory)) (omega arith) in absurd cc
all_made (Wrote address value (Err write.Cut) ∷ calls) old new run whole given are =
    let cut : is_cut (Wrote address value (Err write.Cut)) ≡ false =
    (whole 0 (Wrote address value (Err write.Cut)) (omega arith)).0 in absurd cc
all_made (WroteAll puts answer ∷ calls) old new run whole given are =
    let listed : is_of_several (WroteAll puts answer) ≡ false =
    (whole 0 (WroteAll puts answer) (omega arith)).1 in absurd cc
all_made (Forgot address (Ok Appended) ∷ calls) old new run whole given are =
    let call = Forgot address (Ok Appended) in
    appends_all old run.0 call calls (changes.Forget address) (meaning.Forget address) refl refl
    (forgets old address) refl run.1
    (all_made calls run.0 new run.2 (plain_behind call calls whole) (given_behind call calls given)
    are)
all_made (Forgot address (Ok Moved) ∷ calls) old new run whole given are =
    let call = Forgot address (Ok Moved) in
    moves_all old run.0 call calls (changes.Forget address) (meaning.Forget address) refl refl
    (forgets old address) refl run.1
    (all_made calls run.0 new run.2 (plain_behind call calls whole) (given_behind call calls given)
    are)
all_made (Forgot address (Err forget.Absent) ∷ calls) old new run whole given are =
    λ now moves here.
    absurd (never_absent old now moves address (asked_by_calls calls) here run.1.1)
all_made (Forgot address (Err forget.Off) ∷ calls) old new run whole given are =
    λ now moves here. absurd (not_both old here.on run.1.0)
all_made (Forgot address (Err forget.Spent) ∷ calls) old new run whole given are = λ now moves here.
    absurd (never_spent old now moves (changes.Forget address) (asked_by_calls calls) here run.1.2)
all_made (Forgot address (Err forget.Cut) ∷ calls) old new run whole given are =
    let cut : is_cut (Forgot address (Err forget.Cut)) ≡ false =
    (whole 0 (Forgot address (Err forget.Cut)) (omega arith)).0 in absurd cc
all_made (Cleared answer ∷ calls) old new run whole given are =
    let several : is_of_several (Cleared answer) ≡ false =
    (whole 0 (Cleared answer) (omega arith)).1 in absurd cc
all_made (Cleaned (Ok true) ∷ calls) old new run whole given are =
    let call = Cleaned (Ok true) in
    asks_nothing old run.0 call calls refl refl refl run.1.goes_on.same_power
    run.1.goes_on.same_size (ap (λ (s : State). s.map) run.1.state_is)
    (ap (λ (s : State). s.fill) run.1.state_is) (ap (λ (s : State). s.generation) run.1.state_is)
    (all_made calls run.0 new run.2 (plain_behind call calls whole) (given_behind call calls given)
    are)
all_made (Cleaned (Ok false) ∷ calls) old new run whole given are =
    let call = Cleaned (Ok false) in
    changes_nothing old run.0 call calls refl refl refl run.1.2
    (all_made calls run.0 new run.2 (plain_behind call calls whole)
    (given_behind call calls given) are)
all_made (Cleaned (Err write.Off) ∷ calls) old new run whole given are =
    let call = Cleaned (Err write.Off) in
    changes_nothing old run.0 call calls refl refl refl run.1.1
    (all_made calls run.0 new run.2 (plain_behind call calls whole)
    (given_behind call calls given) are)
all_made (Cleaned (Err write.Cut) ∷ calls) old new run whole given are =
    let cut : is_cut (Cleaned (Err write.Cut)) ≡ false =
    (whole 0 (Cleaned (Err write.Cut)) (omega arith)).0 in absurd cc
all_made (Cleaned (Err write.Full) ∷ calls) old new run whole given are = absurd run.1
all_made (Cleaned (Err write.Spent) ∷ calls) old new run whole given are = absurd run.1
all_made (Cleaned (Err write.Memory) ∷ calls) old new run whole given are = absurd run.1
all_made (DidRead address answer ∷ calls) old new run whole given are =
    let call = DidRead address answer in
    changes_nothing old run.0 call calls refl refl refl run.1.1
    (all_made calls run.0 new run.2 (plain_behind call calls whole)
    (given_behind call calls given) are)
