-- Calls that ask for the changes of a trace move the map no more often than any schedule of that
-- trace does, whatever they are answered.
use Rattle.std.proofs.Common.{◌≡◌, ◌≢◌, ◌⊎◌, ◌∙◌, inl, inr, ℕ, zero, suc, ◌+◌, ◌≤◌, Bool, true, false, cond, eqb, is_some, Ok, Err, Option, Some, None, List, [], ◌∷◌, length, refl, sym, subst, ap, arith, rules}
use Rattle.std.proofs.lemmas.Bool.{cases_eq, ne_eqb}
use Rattle.ee_flash.specs.Device.{Device, IsOff}
use Rattle.ee_flash.specs.Size.{slot_count}
use Rattle.ee_pages.specs.Meaning.{Map, Put, live_in, live_to}
use Rattle.ee_pages.specs.Meaning as meaning
use Rattle.ee_pages.proofs.Public.{live_to-suc, live_to-zero}
use Rattle.ee_core.specs.Calls.{ErasesOne}
use Rattle.ee_core.specs.Changes.{Appends, IsSpent, Moves}
use Rattle.ee_core.specs.Runs.{Call, Wrote, WroteAll, Forgot, Cleared, Cleaned, DidRead, Follows, IsRun, changes_of_call, is_transfer, transfers}
use Rattle.ee_core.specs.State.{State, state_of}
use Rattle.ee_core.specs.declared.variables.ForgetFault.TheVariants as forget
use Rattle.ee_check.proofs.Public.{changed-le}
use Rattle.ee_check.specs.declared.change.Change.{Change}
use Rattle.ee_check.specs.declared.change.Change.TheVariants as changes
use Rattle.ee_check.specs.Live.{live_after_one}
use Rattle.ee_check.specs.Schedule.{Append, Carry, Copy, EachMove, IsAllowed, IsProper, Move, Situation, after_move, changes_of, cost}
use Rattle.ee_plan.proofs.Public.{live_after_forget, live_after_put, live_count_is, forgetting_fits}
use Rattle.ee_plan.specs.Start.{AreLive}
use Rattle.ee_commands.specs.ToldSizes.{asked_by_calls, is_of_several}
use Rattle.ee_commands.proofs.MadeRuns.{ArePlain, AreProper, IsPlain, behind_proper, by_one_change, counted, live_after, not_counted, plain_behind, traced}

-- ---- maps of which one has a value wherever the other has one

abbrev pub IsUnder : Map → Map → Type 0
IsUnder map wide = (address : ℕ) → map address ≢ None → wide address ≢ None

one_counts : (found wide : Option ℕ) → (found ≢ None → wide ≢ None)
    → cond {A = ℕ} (is_some found) 1 0 ≤ cond {A = ℕ} (is_some wide) 1 0
one_counts None wide under = omega arith
one_counts (Some value) (Some other) under = omega arith
one_counts (Some value) None under = absurd (under (λ e. cc) refl)

fewer_live : (map wide : Map) (n : ℕ) → IsUnder map wide → live_to map n ≤ live_to wide n
fewer_live map wide zero under = omega (arith, live_to-zero map, live_to-zero wide)
fewer_live map wide (suc n) under =
    omega (
      arith,
      live_to-suc map n,
      live_to-suc wide n,
      fewer_live map wide n under,
      one_counts (map (suc n)) (wide (suc n)) (under (suc n)),
    )

put_under : (here : Bool) (value : ℕ) (found wide : Option ℕ) → (found ≢ None → wide ≢ None)
    → cond here (Some value) found ≢ None → cond here (Some value) wide ≢ None
put_under true value found wide under some = some
put_under false value found wide under some = under some

forget_under : (here : Bool) (found wide : Option ℕ) → (found ≢ None → wide ≢ None)
    → cond here None found ≢ None → cond here None wide ≢ None
forget_under true found wide under some = some
forget_under false found wide under some = under some

both_under : (change : meaning.Change) (map wide : Map) → IsUnder map wide
    → IsUnder (meaning.map_after change map) (meaning.map_after change wide)
both_under (Put named value) map wide under =
    λ address some.
    put_under (eqb named address) value (map address) (wide address) (under address) some
both_under (meaning.Forget named) map wide under =
    λ address some.
    forget_under (eqb named address) (map address) (wide address) (under address) some

put_wider : (here : Bool) (value : ℕ) (wide : Option ℕ) → wide ≢ None
    → cond here (Some value) wide ≢ None
put_wider true value wide some = λ e. cc
put_wider false value wide some = some

-- a value more in the wider map
still_under : (map wide : Map) (named value : ℕ) → IsUnder map wide
    → IsUnder map (meaning.map_after (Put named value) wide)
still_under map wide named value under =
    λ address some. put_wider (eqb named address) value (wide address) (under address some)

-- a value less, of an address that has none in the other
absent_under : (map wide : Map) (named : ℕ) → map named ≡ None → IsUnder map wide
    → IsUnder map (meaning.map_after (meaning.Forget named) wide)
absent_under map wide named absent under = search (rules, cases_eq, ne_eqb)

-- ---- a store to which nothing more is done

-- it is off, or a move is needed for which no generation is left
abbrev IsDone : Device → Type 0
IsDone device = IsOff device ⊎ IsSpent (slot_count device.size) (state_of device)

never_appends : (old new : Device) (change : meaning.Change) → Appends old change new → IsDone old
    → ⊥
never_appends old new change call (inl off) = let on = call.proceeds.on in cc
never_appends old new change call (inr spent) = absurd (omega (arith, call.free, spent.all_used))

never_moves : (old new : Device) (change : meaning.Change) → Moves old (change ∷ []) new
    → IsDone old → ⊥
never_moves old new change call (inl off) = let on = call.proceeds.on in cc
never_moves old new change call (inr spent) = call.proceeds.accepted.not_spent spent

done_behind : (old new : Device) → ErasesOne old new → IsDone old → IsDone new
done_behind old new call (inl off) = let on = call.was_on in absurd cc
done_behind old new call (inr spent) = search rules

as_before : (old new : Device) → new ≡ old → IsDone old → IsDone new
as_before old new same done = subst (λ (device : Device). IsDone device) (sym same) done

stays_done : (call : Call) (old new : Device) → IsPlain call → Follows call old new → IsDone old
    → (is_transfer call ≡ false) × IsDone new
stays_done call old new plain did done =
    search (rules, as_before, by_one_change, done_behind, never_appends, never_moves)

no_more_moves : (calls : List Call) (old new : Device) → IsRun calls old new → ArePlain calls
    → IsDone old → transfers calls ≡ 0
no_more_moves [] old new run whole done = refl
no_more_moves (call ∷ calls) old new run whole done =
    let here = stays_done call old run.0 (whole 0 call (omega arith)) run.1 done in
    not_counted call calls here.0
    ∙ no_more_moves calls run.0 new run.2 (plain_behind call calls whole) here.1

-- ---- the first change of a schedule

-- How a schedule makes its first change: with so many transfers, of which the last may carry it
-- along; without one it is appended. Then come the other moves.
record IsTurn (start : Situation) (change : Change) (later : List Change) (moves : List Move)
    : Type 0 where
  next : Situation
  more : List Move
  allowed : EachMove IsAllowed next more
  changes_are : changes_of more ≡ later
  spent : ℕ
  cost_is : cost moves ≡ spent + cost more
  slots : next.slots ≡ start.slots
  live : next.live ≡ live_after_one start.live change
  proper : IsProper next
  appended : spent ≡ 0 → next.fill ≡ start.fill + 1

pub carried_fits : (start : Situation) (change : Change) → IsAllowed start (Carry change)
    → IsProper start → length (live_after_one start.live change) ≤ start.slots
carried_fits start (changes.Write address) allowed proper = allowed
carried_fits start (changes.Forget address) allowed proper = forgetting_fits start address proper

turn : (moves : List Move) (start : Situation) (change : Change) (later : List Change)
    → EachMove IsAllowed start moves → changes_of moves ≡ change ∷ later → IsProper start
    → IsTurn start change later moves
turn [] start change later allowed same proper = absurd cc
turn (Copy ∷ moves) start change later allowed same proper =
    let copied : IsProper (after_move start Copy) = record {
      held = omega arith;
      fits = let a = proper.held in
          let b = proper.fits in omega arith;
    } in
    let behind = turn moves (after_move start Copy) change later allowed.1 same copied in
    record {
      next = behind.next;
      more = behind.more;
      allowed = behind.allowed;
      changes_are = behind.changes_are;
      spent = behind.spent + 1;
      cost_is = omega (arith, behind.cost_is);
      slots = behind.slots;
      live = behind.live;
      proper = behind.proper;
      appended = λ none. absurd (omega (arith, none));
    }
turn (Append first ∷ moves) start change later allowed same proper =
    let is : first ≡ change = cc in
    let behind : changes_of moves ≡ later = cc in
    let longer = changed-le start.live first in
    record {
      next = after_move start (Append first);
      more = moves;
      allowed = allowed.1;
      changes_are = behind;
      spent = 0;
      cost_is = omega arith;
      slots = refl;
      live = ap (live_after_one start.live) is;
      proper = record {
        held = let a = proper.held in omega arith;
        fits = let a = allowed.0 in omega arith;
      };
      appended = λ none. refl;
    }
turn (Carry first ∷ moves) start change later allowed same proper =
    let is : first ≡ change = cc in
    let behind : changes_of moves ≡ later = cc in
    record {
      next = after_move start (Carry first);
      more = moves;
      allowed = allowed.1;
      changes_are = behind;
      spent = 1;
      cost_is = omega arith;
      slots = refl;
      live = ap (live_after_one start.live) is;
      proper = record { held = omega arith; fits = carried_fits start first allowed.0 proper };
      appended = λ none. absurd (omega (arith, none));
    }

-- ---- a store beside a schedule

-- Each address that has a value in the store is live in the schedule. The store has moved the map
-- less often, or as often and has no more slots used.
pub record IsBelow (device : Device) (moved : ℕ) (now : Situation) (spent : ℕ) : Type 0 where
  pub wide : Map
  pub live : AreLive wide now.live
  pub under : IsUnder (state_of device).map wide
  pub proper : IsProper now
  pub slots : now.slots ≡ slot_count device.size
  pub few : moved ≤ spent
  pub room : moved ≡ spent → (state_of device).fill ≤ now.fill

-- From here the calls move the map no more often than a schedule of what they ask for.
abbrev pub IsBounded : Device → List Call → Type 0
IsBounded device calls =
    (now : Situation) (moves : List Move) (moved spent : ℕ) → EachMove IsAllowed now moves
    → changes_of moves ≡ asked_by_calls calls
    → IsBelow device moved now spent → transfers calls + moved ≤ cost moves + spent

room_refused : (moved spent more fill was next : ℕ) → moved ≤ spent → (moved ≡ spent → fill ≤ was)
    → (more ≡ 0 → next ≡ was + 1) → moved ≡ spent + more → fill + 1 ≤ next
room_refused moved spent more fill was next few room one same = search rules

few_moved : (moved spent more fill was next slots : ℕ) → moved ≤ spent
    → (moved ≡ spent → fill ≤ was) → (more ≡ 0 → next ≡ was + 1) → fill ≡ slots → next ≤ slots
    → moved + 1 ≤ spent + more
few_moved moved spent more fill was next slots few room one used within = search (rules, cases_eq)

-- this change, meant so, keeps the live addresses
abbrev Keeps : Change → meaning.Change → Type 0
Keeps change meant =
    (wide : Map) (live : List ℕ) → AreLive wide live
    → AreLive (meaning.map_after meant wide) (live_after_one live change)

module _ (old mid : Device) (call : Call) (calls : List Call) where
  -- a call that asks for nothing
  none_asked : asked_by_calls (call ∷ calls) ≡ asked_by_calls calls → is_transfer call ≡ false
      → mid.size ≡ old.size → (state_of mid).map ≡ (state_of old).map
      → (state_of mid).fill ≡ (state_of old).fill → IsBounded mid calls
      → IsBounded old (call ∷ calls)
  none_asked asked still sized map filled then = λ now moves moved spent allowed same below.
      let here : IsBelow mid moved now spent = record {
        wide = below.wide;
        live = below.live;
        under = subst (λ (m : Map). IsUnder m below.wide) (sym map) below.under;
        proper = below.proper;
        slots = below.slots ∙ sym (ap slot_count sized);
        few = below.few;
        room = λ e. let a = below.room e in omega (arith, a, filled);
      } in
      let behind = then now moves moved spent allowed (same ∙ asked) here in
      omega (arith, behind, not_counted call calls still)

  -- a call that leaves the device as it was
  none_done : asked_by_calls (call ∷ calls) ≡ asked_by_calls calls → is_transfer call ≡ false
      → mid ≡ old → IsBounded mid calls → IsBounded old (call ∷ calls)
  none_done asked still same then =
      none_asked asked still (ap (λ (d : Device). d.size) same)
      (ap (λ (d : Device). (state_of d).map) same) (ap (λ (d : Device). (state_of d).fill) same)
      then

  -- after a refusal nothing more is done
  none_follows : is_transfer call ≡ false → transfers calls ≡ 0 → IsBounded old (call ∷ calls)
  none_follows still none =
      λ now moves moved spent allowed same below.
      let few = below.few in omega (arith, not_counted call calls still, none, few)

  module _ (change : Change) (meant : meaning.Change)
      (asked : asked_by_calls (call ∷ calls) ≡ change ∷ asked_by_calls calls)
      (keeps : Keeps change meant) where
    -- a change that is refused
    refused : is_transfer call ≡ false → mid ≡ old
        → ((wide : Map) → IsUnder (state_of old).map wide
        → IsUnder (state_of old).map (meaning.map_after meant wide))
        → IsBounded mid calls → IsBounded old (call ∷ calls)
    refused still kept wider then = λ now moves moved spent allowed same below.
        let first =
        turn moves now change (asked_by_calls calls) allowed (same ∙ asked) below.proper in
        let here : IsBelow old moved first.next (spent + first.spent) = record {
          wide = meaning.map_after meant below.wide;
          live = subst (AreLive (meaning.map_after meant below.wide)) (sym first.live)
              (keeps below.wide now.live below.live);
          under = wider below.wide below.under;
          proper = first.proper;
          slots = first.slots ∙ below.slots;
          few = let a = below.few in omega (arith, a);
          room = λ e. let a =
              room_refused moved spent first.spent (state_of old).fill now.fill first.next.fill
              below.few below.room first.appended e in
              omega (arith, a);
        } in
        let there =
        subst (λ (device : Device). IsBelow device moved first.next (spent + first.spent))
        (sym kept) here in
        let behind =
        then first.next first.more moved (spent + first.spent) first.allowed first.changes_are
        there in
        omega (arith, behind, not_counted call calls still, first.cost_is)

    -- a change that is appended
    appended : is_transfer call ≡ false → Appends old meant mid → IsBounded mid calls
        → IsBounded old (call ∷ calls)
    appended still done then = λ now moves moved spent allowed same below.
        let first =
        turn moves now change (asked_by_calls calls) allowed (same ∙ asked) below.proper in
        let map : (state_of mid).map ≡ meaning.map_after meant (state_of old).map =
        ap (λ (s : State). s.map) done.state_is in
        let fill : (state_of mid).fill ≡ (state_of old).fill + 1 =
        ap (λ (s : State). s.fill) done.state_is in
        let here : IsBelow mid moved first.next (spent + first.spent) = record {
          wide = meaning.map_after meant below.wide;
          live = subst (AreLive (meaning.map_after meant below.wide)) (sym first.live)
              (keeps below.wide now.live below.live);
          under =
              subst (λ (m : Map). IsUnder m (meaning.map_after meant below.wide)) (sym map)
              (both_under meant (state_of old).map below.wide below.under);
          proper = first.proper;
          slots = first.slots ∙ below.slots ∙ sym (ap slot_count done.goes_on.same_size);
          few = let a = below.few in omega (arith, a);
          room = λ e. let a =
              room_refused moved spent first.spent (state_of old).fill now.fill first.next.fill
              below.few below.room first.appended e in
              omega (arith, a, fill);
        } in
        let behind =
        then first.next first.more moved (spent + first.spent) first.allowed first.changes_are
        here in
        omega (arith, behind, not_counted call calls still, first.cost_is)

    -- a change that is carried along when the map moves
    carried : is_transfer call ≡ true → Moves old (meant ∷ []) mid → IsBounded mid calls
        → IsBounded old (call ∷ calls)
    carried turns done then = λ now moves moved spent allowed same below.
        let first =
        turn moves now change (asked_by_calls calls) allowed (same ∙ asked) below.proper in
        let map : (state_of mid).map ≡ meaning.map_after meant (state_of old).map =
        ap (λ (s : State). s.map) done.state_is in
        let fill : (state_of mid).fill ≡ live_in (meaning.map_after meant (state_of old).map) =
        ap (λ (s : State). s.fill) done.state_is in
        let under = both_under meant (state_of old).map below.wide below.under in
        let live =
        subst (AreLive (meaning.map_after meant below.wide)) (sym first.live)
        (keeps below.wide now.live below.live) in
        let fewer =
        fewer_live (meaning.map_after meant (state_of old).map)
        (meaning.map_after meant below.wide) 65534 under in
        let count = live_count_is (meaning.map_after meant below.wide) first.next.live live in
        let held = first.proper.held in
        let slots : first.next.slots ≡ slot_count old.size = first.slots ∙ below.slots in
        let within : first.next.fill ≤ slot_count old.size =
        let a = first.proper.fits in omega (arith, a, slots) in
        let here : IsBelow mid (moved + 1) first.next (spent + first.spent) = record {
          wide = meaning.map_after meant below.wide;
          live = live;
          under =
              subst (λ (m : Map). IsUnder m (meaning.map_after meant below.wide)) (sym map) under;
          proper = first.proper;
          slots = slots ∙ sym (ap slot_count done.goes_on.same_size);
          few = few_moved moved spent first.spent (state_of old).fill now.fill first.next.fill
              (slot_count old.size) below.few below.room first.appended done.needed within;
          room = λ e. omega (arith, fill, fewer, count, held);
        } in
        let behind =
        then first.next first.more (moved + 1) (spent + first.spent) first.allowed
        first.changes_are here in
        let one : transfers (call ∷ calls) ≡ 1 + transfers calls =
        counted call calls ∙ ap (λ b. cond b 1 0 + transfers calls) turns in
        omega (arith, behind, one, first.cost_is)

-- ---- a run

-- a call that made a change asked for it
asked_first : (call : Call) (calls : List Call) (change : meaning.Change)
    → is_of_several call ≡ false → changes_of_call call ≡ change ∷ []
    → asked_by_calls (call ∷ calls) ≡ traced change ∷ asked_by_calls calls
asked_first call calls change h1 h2 = search rules

-- a call that left the device as it was, and what follows
unwritten : (call : Call) (calls : List Call) (old mid new : Device) → IsPlain call
    → Follows call old mid → IsRun calls mid new → ArePlain calls
    → AreProper (asked_by_calls (call ∷ calls)) → is_transfer call ≡ false
    → changes_of_call call ≡ [] → mid ≡ old
    → (AreProper (asked_by_calls calls) → IsBounded mid calls) → IsBounded old (call ∷ calls)
unwritten (Wrote address value answer) calls old mid new plain done run whole are still none same
    later =
    refused old mid (Wrote address value answer) calls (changes.Write address) (Put address value)
    refl (λ wide live is. live_after_put wide live address value are.0 is) still same
    (λ wide under. still_under (state_of old).map wide address value under) (later are.1)
unwritten (WroteAll puts answer) calls old mid new plain done run whole are still none same later =
    let unlisted = plain.1 in absurd cc
unwritten (Forgot address (Ok written)) calls old mid new plain done run whole are still none same
    later =
    absurd cc
unwritten (Forgot address (Err forget.Absent)) calls old mid new plain done run whole are still none
    same later =
    refused old mid (Forgot address (Err forget.Absent)) calls (changes.Forget address)
    (meaning.Forget address) refl (λ wide live is. live_after_forget wide live address is) still
    same
    (λ wide under. absent_under (state_of old).map wide address done.1 under) (later are)
unwritten (Forgot address (Err forget.Off)) calls old mid new plain done run whole are still none
    same later =
    none_follows old mid (Forgot address (Err forget.Off)) calls still
    (no_more_moves calls mid new run whole (as_before old mid same (inl done.0)))
unwritten (Forgot address (Err forget.Spent)) calls old mid new plain done run whole are still none
    same later =
    none_follows old mid (Forgot address (Err forget.Spent)) calls still
    (no_more_moves calls mid new run whole (as_before old mid same (inr done.2)))
unwritten (Forgot address (Err forget.Cut)) calls old mid new plain done run whole are still none
    same later =
    let uncut = plain.0 in absurd cc
unwritten (Cleared answer) calls old mid new plain done run whole are still none same later =
    let unlisted = plain.1 in absurd cc
unwritten (Cleaned answer) calls old mid new plain done run whole are still none same later =
    none_done old mid (Cleaned answer) calls refl still same (later are)
unwritten (DidRead address answer) calls old mid new plain done run whole are still none same later
    =
    none_done old mid (DidRead address answer) calls refl still same (later are)

pub bounded : (calls : List Call) (old new : Device) → IsRun calls old new → ArePlain calls
    → AreProper (asked_by_calls calls) → IsBounded old calls
bounded [] old new run whole are =
    λ now moves moved spent allowed same below. let few = below.few in
    let none : transfers [] ≡ 0 = refl in omega (arith, few, none)
bounded (call ∷ calls) old new run whole are =
    let mid = run.0 in
    let trace = asked_by_calls calls in
    let plain = whole 0 call (omega arith) in
    let plain_later = plain_behind call calls whole in
    let later : AreProper trace → IsBounded mid calls =
    λ behind. bounded calls mid new run.2 plain_later behind in
    let first : (change : meaning.Change) → changes_of_call call ≡ change ∷ []
    → AreProper (traced change ∷ trace) =
    λ change one. subst AreProper (asked_first call calls change plain.1 one) are in
    let none : call ≡ Cleaned (Ok true) → asked_by_calls (call ∷ calls) ≡ trace =
    λ cleaned. ap (λ one. asked_by_calls (one ∷ calls)) cleaned in
    by_one_change
    (λ transfer list.
    is_transfer call ≡ transfer → changes_of_call call ≡ list → IsBounded old (call ∷ calls))
    call old mid plain run.1
    (λ same still empty.
    unwritten call calls old mid new plain run.1 run.2 plain_later are still empty same later)
    (λ change done still one. appended old mid call calls (traced change) change
    (asked_first call calls change plain.1 one)
    (λ wide live is. live_after change trace wide live (first change one) is)
    still done (later (behind_proper (traced change) trace (first change one))))
    (λ change done turns one. carried old mid call calls (traced change) change
    (asked_first call calls change plain.1 one)
    (λ wide live is. live_after change trace wide live (first change one) is)
    turns done (later (behind_proper (traced change) trace (first change one))))
    (λ cleaned done still empty. none_asked old mid call calls (none cleaned) still
    done.goes_on.same_size (ap (λ (s : State). s.map) done.state_is)
    (ap (λ (s : State). s.fill) done.state_is) (later (subst AreProper (none cleaned) are)))
    refl refl
