-- What each turn of a drive does to the cuts, to the map and to the image, and so
-- what all of them do.
use Rattle.std.proofs.Common.{◌≡◌, ◌⊎◌, inl, inr, ℕ, ◌+◌, ◌≤◌, Bool, true, false, cond, min, Option, Some, None, Ok, List, [], ◌∷◌, refl, sym, ap, ◌∙◌, arith, rules}
use Rattle.std.proofs.Math.Path.{fun_ext}
use Rattle.std.specs.Borrow.{Bor}
use Rattle.std.specs.List.{count_by}
use Rattle.std.proofs.lemmas.Bool.{cases_eq}
use Rattle.std.proofs.lemmas.List.Sums.{sum_by-cons}
use Rattle.ee_flash.specs.Device.{Device, IsOn, all_ones}
use Rattle.ee_flash.specs.Step.{one_more}
use Rattle.ee_pages.proofs.Public.{legal_is_good}
use Rattle.ee_pages.specs.Legal.{IsLegal}
use Rattle.ee_pages.specs.Meaning as meaning
use Rattle.ee_pages.specs.Meaning.{Change, Map, map_after, changed_by}
use Rattle.ee_core.proofs.Public.{forget-at, forget-other, put-at, put-other, cut_clearing, cut_map, legal_stays, cut_making, still_none, legal_on, lists_are_there_lem, changed_by-append, goes}
use Rattle.ee_core.specs.Calls.{IsCutClean}
use Rattle.ee_core.specs.Changes.{IsCutChange, IsCutMaking}
use Rattle.ee_core.specs.Emptying.{IsCutClear}
use Rattle.ee_core.specs.Points.{Point, closed_point, with_power_on}
use Rattle.ee_core.specs.Finished.{IsStore}
use Rattle.ee_core.specs.Openings.{IsCutOpening, IsFormatted, Opens}
use Rattle.ee_core.specs.Puts.{HasAll, IsEachOnce, each_forgotten, puts_of}
use Rattle.ee_core.specs.Runs.{Call, WroteAll, Cleared as DidClear, Follows, changes_of_call, is_cut}
use Rattle.ee_core.specs.Starts.{IsCutStart, IsStartable}
use Rattle.ee_core.specs.State.{state_of}
use Rattle.ee_core.specs.declared.change.Put as listed
use Rattle.ee_core.specs.declared.opening.OpenFault.TheVariants as opening
use Rattle.ee_core.specs.declared.variables.ClearFault.TheVariants as clear
use Rattle.ee_core.specs.declared.variables.ForgetFault.TheVariants as forget
use Rattle.ee_core.specs.declared.variables.WriteAllFault.TheVariants as all
use Rattle.ee_core.specs.declared.variables.WriteFault.TheVariants as write
use Rattle.ee_store.specs.PowerCuts.Events.{AreTurns, Happens, Idles, IsCalled, IsEmptied, IsLookedFor, IsTurn, Reopens, StartsUp, Turn, WasDone, call_of_event, tells_of_a_cut, serves_after}
use Rattle.ee_store.specs.PowerCuts.Outcome.{IsValueIn, WasKept, is_scan_fault, kept_by}
use Rattle.ee_store.specs.declared.power_cuts.event.Answer.{Answer}
use Rattle.ee_store.specs.declared.power_cuts.event.Answer.TheVariants.{Cleaned, Cleared, Done, NotCleared, NotForgotten, NotOpened, NotWritten, Off, Opened, Refused, Value}
use Rattle.ee_store.specs.declared.power_cuts.event.Event.{Event}
use Rattle.ee_store.specs.declared.power_cuts.event.Event.TheVariants.{Clean, Clear, Forget, Get, Put, PutAll, Reopen, Start}

-- ---- a change that met a cut

put_again : (map : Map) (named value address : ℕ) → map named ≡ Some value
    → map address ≡ map_after (meaning.Put named value) map address
put_again map named value address there = search (rules, cases_eq, put-at, put-other)

put_found : (old new : Map) (named value : ℕ)
    → (new ≡ old) ⊎ (new ≡ map_after (meaning.Put named value) old) → new named ≡ Some value
    → new ≡ map_after (meaning.Put named value) old
put_found _ _ _ _ (inr done) _ = done
put_found old new named value (inl same) there =
    let had : old named ≡ Some value = sym (ap (λ (map : Map). map named) same) ∙ there in
    same ∙ fun_ext (λ address. put_again old named value address had)

forget_again : (map : Map) (named address : ℕ) → map named ≡ None
    → map address ≡ map_after (meaning.Forget named) map address
forget_again map named address none = search (rules, cases_eq, forget-at, forget-other)

forget_found : (old new : Map) (named : ℕ)
    → (new ≡ old) ⊎ (new ≡ map_after (meaning.Forget named) old) → new named ≡ None
    → new ≡ map_after (meaning.Forget named) old
forget_found _ _ _ (inr done) _ = done
forget_found old new named (inl same) gone =
    let had : old named ≡ None = sym (ap (λ (map : Map). map named) same) ∙ gone in
    same ∙ fun_ext (λ address. forget_again old named address had)

clear_found : (old new : Map)
    → (new ≡ old) ⊎ ((new ≡ changed_by each_forgotten old) × ((address : ℕ) → new address ≡ None))
    → IsEmptied new → new ≡ changed_by each_forgotten old
clear_found _ _ (inr done) _ = done.0
clear_found old new (inl same) emptied =
    same
    ∙ fun_ext (λ address.
    sym (ap (λ (map : Map). map address) same) ∙ emptied address
    ∙ sym
    (still_none 1 65534 old address
    (sym (ap (λ (map : Map). map address) same) ∙ emptied address)))

put_lost : (old new : Map) (named value : ℕ)
    → (new ≡ old) ⊎ (new ≡ map_after (meaning.Put named value) old) → (new named ≡ Some value → ⊥)
    → new ≡ old
put_lost _ _ _ _ (inl same) _ = same
put_lost old new named value (inr done) lost = search rules

forget_lost : (old new : Map) (named : ℕ)
    → (new ≡ old) ⊎ (new ≡ map_after (meaning.Forget named) old) → (new named ≡ None → ⊥)
    → new ≡ old
forget_lost _ _ _ (inl same) _ = same
forget_lost old new named (inr done) lost = search rules

-- values that the map has already change nothing
puts_again : (puts : List listed.Put) (map : Map) → HasAll puts map
    → changed_by (puts_of puts) map ≡ map
puts_again [] _ _ = refl
puts_again (put ∷ puts) map there =
    search (rules, fun_ext, put_again, (puts_again puts map there.1))

puts_found : (old new : Map) (puts : List listed.Put)
    → (new ≡ old) ⊎ (new ≡ changed_by (puts_of puts) old) → HasAll puts new
    → new ≡ changed_by (puts_of puts) old
puts_found _ _ _ (inr done) _ = done
puts_found old new puts (inl same) there = search (rules, puts_again)

puts_lost : (old new : Map) (puts : List listed.Put) → IsEachOnce puts
    → (new ≡ old) ⊎ (new ≡ changed_by (puts_of puts) old) → (HasAll puts new → ⊥) → new ≡ old
puts_lost _ _ _ _ (inl same) _ = same
puts_lost old new puts once (inr done) lost = search (rules, lists_are_there_lem)

-- a map in which nothing has a value is as it is with each address forgotten
clear_kept : (held : Bool) (old new : Device) → IsCutClear old new
    → (held ≡ true → IsEmptied (state_of new).map) → (IsEmptied (state_of new).map → held ≡ true)
    → (state_of new).map
    ≡ changed_by (kept_by Clear (NotCleared clear.Cut) (Some held)) (state_of old).map
clear_kept true old new cut emptied found =
    clear_found (state_of old).map (state_of new).map (cut_clearing old new cut) (emptied refl)
clear_kept false old new cut emptied found = search rules

-- ---- one turn

-- what a turn does, from an image that is legal where it matters
pub record Does (serving : Bool) (event : Event) (answer : Answer) (found : Option Bool)
    (old new : Device) : Type 0 where
  pub cuts_are : new.cuts ≡ cond (tells_of_a_cut answer) (one_more old.cuts) old.cuts
  pub serves : serves_after serving answer ≡ true → IsOn new × IsStore new
  pub legal : IsLegal old → IsLegal new
  pub no_scan_fault : IsLegal old → is_scan_fault answer ≡ false
  pub value : IsValueIn (state_of old).map event answer
  pub map_is : IsLegal old
      → (state_of new).map ≡ changed_by (kept_by event answer found) (state_of old).map

-- a call in which power was not cut
whole : (call : Call) (event : Event) (answer : Answer) (found : Option Bool) (old new : Device)
    → is_cut call ≡ false → IsOn old × Follows call old new × IsStore new
    → found ≡ None → changes_of_call call ≡ kept_by event answer None
    → tells_of_a_cut answer ≡ false → is_scan_fault answer ≡ false
    → IsValueIn (state_of old).map event answer
    → Does true event answer found old new
whole call event answer found old new is_whole called looked same not_cut good value =
    let did = goes call old new is_whole called.1 in
    search rules

put_kept : (address value : ℕ) (held : Bool) (old new : Device) → IsLegal old
    → IsCutChange old (meaning.Put address value) new
    → (held ≡ true → (state_of new).map address ≡ Some value)
    → ((state_of new).map address ≡ Some value → held ≡ true)
    → (state_of new).map
    ≡ changed_by (kept_by (Put address value) (Refused write.Cut) (Some held))
    (state_of old).map
put_kept address value true old new legal cut there found =
    put_found (state_of old).map (state_of new).map address value
    (cut_map old new (meaning.Put address value) cut) (there refl)
put_kept address value false old new legal cut there found =
    put_lost (state_of old).map (state_of new).map address value
    (cut_map old new (meaning.Put address value) cut)
    (λ e. let wrong = found e in absurd (cc wrong))

forget_kept : (address : ℕ) (held : Bool) (old new : Device) → IsLegal old
    → IsCutChange old (meaning.Forget address) new
    → (held ≡ true → (state_of new).map address ≡ None)
    → ((state_of new).map address ≡ None → held ≡ true)
    → (state_of new).map
    ≡ changed_by (kept_by (Forget address) (NotForgotten forget.Cut) (Some held))
    (state_of old).map
forget_kept address true old new legal cut gone found =
    forget_found (state_of old).map (state_of new).map address
    (cut_map old new (meaning.Forget address) cut) (gone refl)
forget_kept address false old new legal cut gone found =
    forget_lost (state_of old).map (state_of new).map address
    (cut_map old new (meaning.Forget address) cut)
    (λ e. let wrong = found e in absurd (cc wrong))

puts_kept : (puts : Bor (List listed.Put)) (held : Bool) (old new : Device) → IsEachOnce puts.now
    → IsCutMaking old (puts_of puts.now) new → (held ≡ true → HasAll puts.now (state_of new).map)
    → (HasAll puts.now (state_of new).map → held ≡ true)
    → (state_of new).map
    ≡ changed_by (kept_by (PutAll puts) (NotWritten all.Cut) (Some held)) (state_of old).map
puts_kept puts true old new once cut there found = search (rules, puts_found, cut_making)
puts_kept puts false old new once cut there found = search (rules, puts_lost, cut_making)

put_done : (address value : ℕ) (held : Bool) (old new : Device)
    → IsOn old × IsCutChange old (meaning.Put address value) new × IsStore new
    → (held ≡ true → (state_of new).map address ≡ Some value)
    → ((state_of new).map address ≡ Some value → held ≡ true)
    → Does true (Put address value) (Refused write.Cut) (Some held) old new
put_done address value held old new called there found = search (rules, put_kept)

forget_done : (address : ℕ) (held : Bool) (old new : Device)
    → IsOn old × IsCutChange old (meaning.Forget address) new × IsStore new
    → (held ≡ true → (state_of new).map address ≡ None)
    → ((state_of new).map address ≡ None → held ≡ true)
    → Does true (Forget address) (NotForgotten forget.Cut) (Some held) old new
forget_done address held old new called gone found = search (rules, forget_kept)

puts_done : (puts : Bor (List listed.Put)) (held : Bool) (old new : Device)
    → IsOn old × (IsEachOnce puts.now × IsCutMaking old (puts_of puts.now) new) × IsStore new
    → (held ≡ true → HasAll puts.now (state_of new).map)
    → (HasAll puts.now (state_of new).map → held ≡ true)
    → Does true (PutAll puts) (NotWritten all.Cut) (Some held) old new
puts_done puts held old new called there found = search (rules, cut_making, puts_kept)

clear_done : (held : Bool) (old new : Device) → IsOn old × IsCutClear old new × IsStore new
    → (held ≡ true → IsEmptied (state_of new).map) → (IsEmptied (state_of new).map → held ≡ true)
    → Does true Clear (NotCleared clear.Cut) (Some held) old new
clear_done held old new called emptied found = search (rules, clear_kept)

clean_cut : (found : Option Bool) (old new : Device) → IsOn old × IsCutClean old new × IsStore new
    → found ≡ None → Does true Clean (Refused write.Cut) found old new
clean_cut found old new called looked = search rules

-- a call of an open store
put_turn : (address value : ℕ) (answer : Answer) (found : Option Bool) (old new : Device)
    → IsCalled (call_of_event (Put address value) answer) old new
    → IsLookedFor (Put address value) answer found new
    → Does true (Put address value) answer found old new
put_turn address value (Done written) found old new called looked = search rules
put_turn address value (Refused write.Off) found old new called looked = search rules
put_turn address value (Refused write.Full) found old new called looked = search rules
put_turn address value (Refused write.Spent) found old new called looked = search rules
put_turn _ _ (Refused write.Memory) _ _ _ called _ = absurd called
put_turn _ _ (Refused write.Cut) None _ _ _ looked = absurd looked
put_turn address value (Refused write.Cut) (Some held) old new called looked =
    search (rules, put_done)
put_turn _ _ _ _ _ _ called _ = absurd called

put_all_turn : (puts : Bor (List listed.Put)) (answer : Answer) (found : Option Bool)
    (old new : Device)
    → IsCalled (call_of_event (PutAll puts) answer) old new
    → IsLookedFor (PutAll puts) answer found new → Does true (PutAll puts) answer found old new
put_all_turn puts (Done written) found old new called looked =
    whole (WroteAll puts.now (Ok written)) (PutAll puts) (Done written) found old new refl called
    looked refl refl refl tt
put_all_turn puts (NotWritten all.Off) found old new called looked = search rules
put_all_turn puts (NotWritten (all.Twice place)) found old new called looked = search rules
put_all_turn puts (NotWritten all.Full) found old new called looked = search rules
put_all_turn puts (NotWritten all.Spent) found old new called looked = search rules
put_all_turn _ (NotWritten all.Memory) _ _ _ called _ = absurd called
put_all_turn _ (NotWritten all.Cut) None _ _ _ looked = absurd looked
put_all_turn puts (NotWritten all.Cut) (Some held) old new called looked =
    puts_done puts held old new called looked.0 looked.1
put_all_turn _ _ _ _ _ called _ = absurd called

forget_turn : (address : ℕ) (answer : Answer) (found : Option Bool) (old new : Device)
    → IsCalled (call_of_event (Forget address) answer) old new
    → IsLookedFor (Forget address) answer found new
    → Does true (Forget address) answer found old new
forget_turn address (Done written) found old new called looked = search rules
forget_turn address (NotForgotten forget.Off) found old new called looked = search rules
forget_turn address (NotForgotten forget.Absent) found old new called looked = search rules
forget_turn address (NotForgotten forget.Spent) found old new called looked = search rules
forget_turn _ (NotForgotten forget.Cut) None _ _ _ looked = absurd looked
forget_turn address (NotForgotten forget.Cut) (Some held) old new called looked =
    forget_done address held old new called looked.0 looked.1
forget_turn _ _ _ _ _ called _ = absurd called

get_turn : (address : ℕ) (answer : Answer) (found : Option Bool) (old new : Device)
    → IsCalled (call_of_event (Get address) answer) old new
    → IsLookedFor (Get address) answer found new → Does true (Get address) answer found old new
get_turn address (Value value) found old new called looked = search rules
get_turn _ _ _ _ _ called _ = absurd called

clear_turn : (answer : Answer) (found : Option Bool) (old new : Device)
    → IsCalled (call_of_event Clear answer) old new → IsLookedFor Clear answer found new
    → Does true Clear answer found old new
clear_turn (Cleared true) found old new called looked =
    whole (DidClear (Ok true)) Clear (Cleared true) found old new refl called looked refl refl refl
    tt
clear_turn (Cleared false) found old new called looked = search rules
clear_turn (NotCleared clear.Off) found old new called looked = search rules
clear_turn (NotCleared clear.Spent) found old new called looked = search rules
clear_turn (NotCleared clear.Cut) None _ _ _ looked = absurd looked
clear_turn (NotCleared clear.Cut) (Some held) old new called looked =
    clear_done held old new called looked.0 looked.1
clear_turn _ _ _ _ called _ = absurd called

clean_turn : (answer : Answer) (found : Option Bool) (old new : Device)
    → IsCalled (call_of_event Clean answer) old new → IsLookedFor Clean answer found new
    → Does true Clean answer found old new
clean_turn (Cleaned erased) found old new called looked = search rules
clean_turn (Refused write.Off) found old new called looked = search rules
clean_turn (Refused write.Full) _ _ _ called _ = absurd called.1
clean_turn (Refused write.Spent) _ _ _ called _ = absurd called.1
clean_turn (Refused write.Memory) _ _ _ called _ = absurd called.1
clean_turn (Refused write.Cut) found old new called looked = clean_cut found old new called looked
clean_turn _ _ _ _ called _ = absurd called

-- without an open store
off_turn : (event : Event) (answer : Answer) (found : Option Bool) (old new : Device)
    → Idles answer old new → IsLookedFor event Off found new
    → IsValueIn (state_of old).map event Off
    → ([] ≡ kept_by event Off found) → Does false event answer found old new
off_turn event Off found old new same looked value none = search rules
off_turn _ _ _ _ _ idles _ _ _ = absurd idles

-- ---- reopening

-- the image says the same with the power on
map_on : (device : Device) → (state_of (with_power_on device)).map ≡ (state_of device).map
map_on device = search rules

-- an opening keeps no change
nothing_kept : (answer : Answer) (found : Option Bool) (old new : Device) → found ≡ None
    → (state_of new).map ≡ (state_of old).map
    → (state_of new).map ≡ changed_by (kept_by Reopen answer found) (state_of old).map
nothing_kept answer found old new looked same = search rules

reopened : (serving : Bool) (found : Option Bool) (old new : Device) → Opens (with_power_on old) new
    → found ≡ None → Does serving Reopen Opened found old new
reopened serving found old new opens looked = search (rules, map_on, nothing_kept)

reopening_cut : (serving : Bool) (found : Option Bool) (old new : Device)
    → IsCutOpening (with_power_on old) new → found ≡ None
    → Does serving Reopen (NotOpened opening.Cut) found old new
reopening_cut serving found old new cut looked = search (rules, map_on, nothing_kept)

reopen_turn : (serving : Bool) (answer : Answer) (found : Option Bool) (old new : Device)
    → Reopens answer old new → found ≡ None → Does serving Reopen answer found old new
reopen_turn serving Opened found old new opens looked = reopened serving found old new opens looked
reopen_turn serving (NotOpened opening.Cut) found old new cut looked =
    reopening_cut serving found old new cut looked
reopen_turn serving (NotOpened (opening.Scan fault)) found old new fails looked =
    search (rules, legal_is_good, legal_on)
reopen_turn _ _ _ _ _ reopens _ = absurd reopens

-- a start does what a reopening does, where it opens or fails as one
as_reopened : (serving : Bool) (answer : Answer) (found : Option Bool) (old new : Device)
    → Does serving Reopen answer found old new → Does serving Start answer found old new
as_reopened serving answer found old new did = record {
  cuts_are = did.cuts_are;
  serves = did.serves;
  legal = did.legal;
  no_scan_fault = did.no_scan_fault;
  value = tt;
  map_is = did.map_is;
}

not_startable : (device : Device) → IsLegal device → ¬ IsStartable (with_power_on device)
not_startable device legal = legal_stays (with_power_on device) (legal_on device legal)

first_store : (serving : Bool) (found : Option Bool) (old new : Device)
    → IsStartable (with_power_on old) → IsFormatted (with_power_on old) new
    → Does serving Start Opened found old new
first_store serving found old new startable formatted =
    let never : ¬ IsLegal old = λ legal. not_startable old legal startable in
    search rules

first_store_cut : (serving : Bool) (found : Option Bool) (old new : Device)
    → IsCutStart (with_power_on old) new → Does serving Start (NotOpened opening.Cut) found old new
first_store_cut serving found old new cut =
    let never : ¬ IsLegal old = λ legal. not_startable old legal cut.was_startable in
    search rules

start_turn : (serving : Bool) (answer : Answer) (found : Option Bool) (old new : Device)
    → StartsUp answer old new → found ≡ None → Does serving Start answer found old new
start_turn serving Opened found old new (inl first) looked =
    first_store serving found old new first.0 first.1
start_turn serving Opened found old new (inr opens) looked =
    as_reopened serving Opened found old new (reopened serving found old new opens looked)
start_turn serving (NotOpened opening.Cut) found old new (inl cut) looked =
    first_store_cut serving found old new cut
start_turn serving (NotOpened opening.Cut) found old new (inr cut) looked =
    as_reopened serving (NotOpened opening.Cut) found old new
    (reopening_cut serving found old new cut looked)
start_turn serving (NotOpened (opening.Scan fault)) found old new fails looked =
    as_reopened serving (NotOpened (opening.Scan fault)) found old new
    (reopen_turn serving (NotOpened (opening.Scan fault)) found old new (fails.1, fails.2) looked)
start_turn _ _ _ _ _ starts _ = absurd starts

does : (serving : Bool) (event : Event) (answer : Answer) (found : Option Bool) (old new : Device)
    → Happens serving event answer old new → IsLookedFor event answer found new
    → Does serving event answer found old new
does serving Reopen answer found old new happens looked =
    reopen_turn serving answer found old new happens looked
does serving Start answer found old new happens looked =
    start_turn serving answer found old new happens looked
does true (Put address value) answer found old new happens looked =
    put_turn address value answer found old new happens looked
does true (PutAll puts) answer found old new happens looked =
    put_all_turn puts answer found old new happens looked
does true (Forget address) answer found old new happens looked =
    forget_turn address answer found old new happens looked
does true (Get address) answer found old new happens looked =
    get_turn address answer found old new happens looked
does true Clear answer found old new happens looked = clear_turn answer found old new happens looked
does true Clean answer found old new happens looked = clean_turn answer found old new happens looked
does false (Put address value) Off found old new same looked = search rules
does false (PutAll puts) Off found old new same looked = search rules
does false (Forget address) Off found old new same looked = search rules
does false (Get address) Off found old new same looked = search rules
does false Clear Off found old new same looked =
    off_turn Clear Off found old new same looked tt refl
does false Clean Off found old new same looked =
    off_turn Clean Off found old new same looked tt refl
does false _ _ _ _ _ idles _ = absurd idles

pub does_turn : (turn : Turn) (old new : Point) → IsTurn turn old new
    → Does old.serving turn.event turn.answer turn.found old.device new.device
does_turn turn old new taken = search (rules, does)

-- ---- turns one after another

pub no_answered_change_is_lost_lem : (turns : List Turn) (old new : Point) → AreTurns turns old new
    → IsLegal old.device → WasKept turns old.device new.device
no_answered_change_is_lost_lem [] old new same legal = search rules
no_answered_change_is_lost_lem (turn ∷ turns) old new run legal =
    let one = does_turn turn old run.0 run.1 in
    search (
      rules,
      changed_by-append,
      (no_answered_change_is_lost_lem turns run.0 new run.2 (one.legal legal)),
    )

-- an open store stays so to the end, or a cut or an opening that fails ends it
open_at_end : (turns : List Turn) (old new : Point) → AreTurns turns old new
    → (old.serving ≡ true → IsOn old.device × IsStore old.device) → new.serving ≡ true
    → IsOn new.device × IsStore new.device
open_at_end [] old new same stands = search rules
open_at_end (turn ∷ turns) old new run _ =
    open_at_end turns run.0 new run.2
    (λ serving. (does_turn turn old run.0 run.1).serves (sym run.1.serving_is ∙ serving))

-- the cuts so far, and one more or none
cuts_fit : (cut : Bool) (start between : ℕ) → start ≤ all_ones
    → between ≡ cond cut (one_more start) start → between ≤ all_ones
cuts_fit true start between fits is = omega arith
cuts_fit false start between fits is = omega arith

one_cut : (cut : Bool) (start between end rest all : ℕ) → start ≤ all_ones
    → between ≡ cond cut (one_more start) start → end ≡ min (between + rest) all_ones
    → all ≡ cond cut 1 0 + rest → end ≡ min (start + all) all_ones
one_cut true start between end rest all fits is ends sum = omega arith
one_cut false start between end rest all fits is ends sum = omega arith

all_cuts : (turns : List Turn) (old new : Point) → AreTurns turns old new
    → old.device.cuts ≤ all_ones
    → new.device.cuts
    ≡ min (old.device.cuts + count_by (λ (turn : Turn). tells_of_a_cut turn.answer) turns)
    all_ones
all_cuts [] old new same fits = search rules
all_cuts (turn ∷ turns) old new run fits =
    let one = does_turn turn old run.0 run.1 in
    one_cut (tells_of_a_cut turn.answer) old.device.cuts run.0.device.cuts new.device.cuts
    (count_by (λ (turn : Turn). tells_of_a_cut turn.answer) turns) _ fits one.cuts_are
    (all_cuts turns run.0 new run.2
    (cuts_fit (tells_of_a_cut turn.answer) old.device.cuts run.0.device.cuts fits one.cuts_are))
    (sum_by-cons (λ (one : Turn). cond (tells_of_a_cut one.answer) 1 0) turn turns)

pub was_done : (turns : List Turn) (old new : Device) (end : Point)
    → AreTurns turns (closed_point old) end → end.device ≡ new → old.cuts ≤ all_ones
    → WasDone turns old new
was_done turns old new end run same fits = search (rules, all_cuts, open_at_end)
