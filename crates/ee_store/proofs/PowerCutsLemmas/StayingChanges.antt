-- A change that was kept is there as long as no further change of its address is asked for.
use Rattle.std.proofs.Common.{◌≡◌, ◌<◌, ◌++◌, ℕ, Bool, true, false, Option, Some, Ok, List, [], ◌∷◌, length, refl, subst, ap, ◌∙◌, arith, suc, zero, rules}
use Rattle.std.specs.List.{All, Contains}
use Rattle.std.specs.Prelude.{slice_index_or}
use Rattle.std.proofs.lemmas.List.Elements.{All-head, All-tail}
use Rattle.ee_flash.specs.Device.{Device}
use Rattle.ee_pages.specs.Legal.{IsLegal}
use Rattle.ee_pages.specs.Meaning.{Change, Map, changed_by}
use Rattle.ee_pages.specs.Pending.{address_of}
use Rattle.ee_core.proofs.Public.{forget-other, changed_by-append, changed_by-other, forgotten_has, lists_are_there_lem, names-puts, apart}
use Rattle.ee_core.specs.Calls.{WritesAll}
use Rattle.ee_core.specs.Points.{Point}
use Rattle.ee_core.specs.Changes.{HasChange}
use Rattle.ee_core.specs.Puts.{HasAll, is_put, puts_of}
use Rattle.ee_core.specs.State.{State, state_of}
use Rattle.ee_core.specs.declared.change.Put as listed
use Rattle.ee_core.specs.declared.variables.ClearFault.TheVariants as clear
use Rattle.ee_core.specs.declared.variables.WriteAllFault.TheVariants as all
use Rattle.ee_core.specs.declared.variables.Written.{Written}
use Rattle.ee_core.specs.declared.variables.Written.TheVariants.{Appended, Moved}
use Rattle.ee_store.proofs.PowerCutsLemmas.KeptChanges.{does_turn, no_answered_change_is_lost_lem}
use Rattle.ee_store.specs.PowerCuts.Events.{AreTurns, Happens, IsLookedFor, IsTurn, Turn}
use Rattle.ee_store.specs.PowerCuts.Outcome.{event_asks_change_of, kept_by, kept_changes}
use Rattle.ee_store.specs.declared.power_cuts.event.Answer.{Answer}
use Rattle.ee_store.specs.declared.power_cuts.event.Answer.TheVariants.{Cleared, Done, NotCleared, NotForgotten, NotWritten, Refused}
use Rattle.ee_store.specs.declared.power_cuts.event.Event.{Event}
use Rattle.ee_store.specs.declared.power_cuts.event.Event.TheVariants.{Clear, Forget, Put, PutAll}

-- ---- a change that was kept is there

-- the values of a list, once it is written
written_all : (puts : List listed.Put) (written : Written) (old new : Device)
    → WritesAll old puts (Ok written) new → HasAll puts (state_of new).map
written_all [] Appended _ _ _ = tt
written_all (put ∷ []) Appended old new done = search rules
written_all (_ ∷ _ ∷ _) Appended _ _ done = absurd done
written_all puts Moved old new done = search (rules, lists_are_there_lem)

-- each of them is a change that is there
listed_at : (puts : List listed.Put) (map : Map) (change : Change) (place : ℕ) → HasAll puts map
    → place < length (puts_of puts) → slice_index_or (puts_of puts) place change ≡ change
    → HasChange change map
listed_at [] map change place there within is = absurd (omega (arith, within))
listed_at (_ ∷ _) map _ zero there _ is = subst (λ (one : Change). HasChange one map) is there.0
listed_at (put ∷ puts) map change (suc place) there within is =
    listed_at puts map change place there.1 (omega (arith, within)) is

one_of_all : (puts : List listed.Put) (map : Map) (change : Change) → HasAll puts map
    → Contains (puts_of puts) change → HasChange change map
one_of_all puts map change there kept = listed_at puts map change kept.0 there kept.1 kept.2

none_kept : (change : Change) (map : Map) → Contains [] change → HasChange change map
none_kept change map kept = absurd (omega (arith, kept.1))

there : (serving : Bool) (event : Event) (answer : Answer) (found : Option Bool) (change : Change)
    (old new : Device)
    → Happens serving event answer old new → IsLookedFor event answer found new
    → (state_of new).map ≡ changed_by (kept_by event answer found) (state_of old).map
    → Contains (kept_by event answer found) change → HasChange change (state_of new).map
there serving (Put address value) (Done written) found change old new happens looked same kept =
    search rules
there serving (Put address value) (Refused fault) (Some true) change old new happens looked same
    kept =
    search rules
there serving (Forget address) (Done written) found change old new happens looked same kept =
    search rules
there serving (Forget address) (NotForgotten fault) (Some true) change old new happens looked same
    kept =
    search rules
there true (PutAll puts) (Done written) found change old new happens looked same kept =
    search (rules, one_of_all, written_all)
there false (PutAll _) (Done _) _ _ _ _ happens _ _ _ = absurd happens
there serving (PutAll puts) (NotWritten all.Cut) (Some true) change old new happens looked same kept
    =
    search (rules, one_of_all)
there serving (PutAll puts) (NotWritten fault) (Some true) change old new happens looked same kept
    =
    absurd cc
there true Clear (Cleared true) _ change _ new happens _ _ kept =
    forgotten_has 1 65534 change (state_of new).map kept
    (λ address. ap (λ (state : State). state.map address) happens.1.state_is)
there false Clear (Cleared true) _ _ _ _ happens _ _ _ = absurd happens
there _ Clear (NotCleared clear.Cut) (Some true) change _ new _ looked _ kept =
    forgotten_has 1 65534 change (state_of new).map kept (looked.0 refl)
there serving Clear (NotCleared fault) (Some true) change old new happens looked same kept =
    absurd cc
there _ _ _ _ change _ new _ _ _ kept = none_kept change (state_of new).map kept

-- ---- it stays

-- what an event keeps leaves an address of which it asks no change as it was
others_put : (address : ℕ) (puts : List listed.Put) (map : Map) → is_put puts address ≡ false
    → changed_by (puts_of puts) map address ≡ map address
others_put address puts map other = search (rules, changed_by-other, names-puts)

elsewhere : (address : ℕ) (event : Event) (answer : Answer) (found : Option Bool) (map : Map)
    → event_asks_change_of address event ≡ false
    → changed_by (kept_by event answer found) map address ≡ map address
elsewhere address (Put named value) (Done written) found map other = search rules
elsewhere address (Put named value) (Refused fault) (Some true) map other = search rules
elsewhere address (PutAll puts) (Done _) _ map other = others_put address puts.now map other
elsewhere address (PutAll puts) (NotWritten _) (Some true) map other =
    others_put address puts.now map other
elsewhere address (Forget named) (Done _) _ map other =
    forget-other map named address (apart named address other)
elsewhere address (Forget named) (NotForgotten _) (Some true) map other =
    forget-other map named address (apart named address other)
elsewhere address Clear (Cleared true) found map other = absurd (cc other)
elsewhere address Clear (NotCleared fault) (Some true) map other = absurd (cc other)
elsewhere _ _ _ _ _ _ = refl

stays : (address : ℕ) (turns : List Turn) (map : Map)
    → All (λ (one : Turn). event_asks_change_of address one.event ≡ false) turns
    → changed_by (kept_changes turns) map address ≡ map address
stays _ [] _ _ = refl
stays address (turn ∷ turns) map others =
    ap (λ (after : Map). after address)
    (changed_by-append (kept_by turn.event turn.answer turn.found) (kept_changes turns) map)
    ∙ stays address turns (changed_by (kept_by turn.event turn.answer turn.found) map)
    (All-tail (λ (one : Turn). event_asks_change_of address one.event ≡ false) turn turns others)
    ∙ elsewhere address turn.event turn.answer turn.found map
    (All-head (λ (one : Turn). event_asks_change_of address one.event ≡ false) turn turns
    others)

-- turns are those before one of them, that one, and those behind it
parted : (turns later : List Turn) (turn : Turn) (old new : Point)
    → AreTurns (turns ++ turn ∷ later) old new
    → (before after : Point) × AreTurns turns old before × IsTurn turn before after
    × AreTurns later after new
parted [] _ _ old _ run = (old, run.0, refl, run.1, run.2)
parted (first ∷ turns) later turn old new run =
    search (rules, (parted turns later turn run.0 new run.2))

pub a_kept_change_stays_lem : (turns later : List Turn) (turn : Turn) (change : Change)
    (old new : Point)
    → AreTurns (turns ++ turn ∷ later) old new → IsLegal old.device
    → Contains (kept_by turn.event turn.answer turn.found) change
    → All (λ (one : Turn). event_asks_change_of (address_of change) one.event ≡ false) later
    → HasChange change (state_of new.device).map
a_kept_change_stays_lem turns later turn change old new run legal kept others =
    let part = parted turns later turn old new run in
    let before = no_answered_change_is_lost_lem turns old part.0 part.2 legal in
    let did = does_turn turn part.0 part.1 part.3 in
    let behind = no_answered_change_is_lost_lem later part.1 new part.4 (did.legal before.legal) in
    let has =
    there part.0.serving turn.event turn.answer turn.found change part.0.device part.1.device
    part.3.happens part.3.looked (did.map_is before.legal) kept in
    let same =
    ap (λ (map : Map). map (address_of change)) behind.map_is
    ∙ stays (address_of change) later (state_of part.1.device).map others in
    search rules
