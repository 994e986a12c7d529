-- An event on a device that is on: it is answered at once, or takes its steps, whole or cut.
use Rattle.std.proofs.Common.{◌≡◌, ◌≢◌, ◌⊎◌, inl, inr, ◌<◌, ℕ, zero, suc, Bool, cond, Option, Some, None, List, [], ◌∷◌, ap, arith, false, length, refl, sym, subst, true, ◌∙◌}
use Rattle.std.specs.Prelude.{◌==◌, ◌&&◌, nat_lt, is_some}
use Rattle.std.specs.Borrow.{Bor}
use Rattle.std.specs.List.{All, list_all}
use Rattle.std.proofs.lemmas.Bool.{eq-eqb, le-ltb, lt-ltb, ne_eqb, true≢false}
use Rattle.std.proofs.lemmas.List.Elements.{All-cons, All-head, All-nil, All-tail}
use Rattle.ee_flash.specs.Device.{Device, IsOff, IsOn}
use Rattle.ee_flash.specs.Step.{Step}
use Rattle.ee_flash.specs.Taking.{Completes, IsCutAmong}
use Rattle.ee_flash.specs.declared.word.Word.{Word}
use Rattle.ee_pages.proofs.Public.{legal_is_good, one_scan_fault}
use Rattle.ee_pages.specs.Layout.{IsScanFault}
use Rattle.ee_pages.specs.Legal.{IsLegal}
use Rattle.ee_pages.specs.Meaning as meaning
use Rattle.ee_pages.specs.Meaning.{Change, Map, live_in}
use Rattle.ee_pages.specs.Page.{is_blank}
use Rattle.ee_pages.specs.Sets.{committed_generation, greater_set, live_of, set_of}
use Rattle.ee_pages.specs.declared.find.ScanFault.TheVariants.{NoLiveSet, Unformatted}
use Rattle.ee_pages.specs.declared.side.Side.TheVariants.{First, Second}
use Rattle.ee_core.specs.Calls.{AppendsAll}
use Rattle.ee_core.specs.Changes.{Appends, HaveNoGeneration, HaveNoPlace, IsAccepted, IsCutMaking, Moves, NeedsTransfer, Proceeds, greatest_generation}
use Rattle.ee_core.specs.Emptying.{MayClear}
use Rattle.ee_core.specs.Points.{with_power_on}
use Rattle.ee_core.specs.Puts.{IsEachOnce, is_twice, puts_of}
use Rattle.ee_core.specs.Starts.{IsStartable}
use Rattle.ee_core.specs.State.{State, capacity, state_of}
use Rattle.ee_core.specs.StepLists.{steps_of_append, steps_of_format, steps_of_making, steps_of_open, steps_of_transfer}
use Rattle.ee_core.specs.declared.change.Put as listed
use Rattle.ee_core.specs.declared.opening.OpenFault.TheVariants as opening
use Rattle.ee_core.specs.declared.variables.ClearFault.TheVariants as clear
use Rattle.ee_core.specs.declared.variables.ForgetFault.TheVariants as forget
use Rattle.ee_core.specs.declared.variables.WriteAllFault.TheVariants as all
use Rattle.ee_core.specs.declared.variables.WriteFault.TheVariants as write
use Rattle.ee_core.specs.declared.variables.Written.TheVariants.{Appended, Moved}
use Rattle.ee_store.proofs.PowerCutsLemmas.FirstStores.{first}
use Rattle.ee_store.proofs.PowerCutsLemmas.Refusals.{both_true, first_found, first_none, not_refused, refused_place, refused_spent, twice_within}
use Rattle.ee_store.specs.PowerCuts.Deciding.{event_at_once, answer_when_done, answer_when_cut, fault_of, first_of, list_at_once, refusal_of, steps_of_event, written_by}
use Rattle.ee_store.specs.PowerCuts.Events.{IsCalled, Reopens, StartsUp, call_of_event}
use Rattle.ee_store.specs.declared.power_cuts.event.Answer.{Answer}
use Rattle.ee_store.specs.declared.power_cuts.event.Answer.TheVariants.{Cleaned, Cleared, Done, NotCleared, NotForgotten, NotOpened, NotWritten, Opened, Refused, Value}
use Rattle.ee_store.specs.declared.power_cuts.event.Event.{Event}
use Rattle.ee_store.specs.declared.power_cuts.event.Event.TheVariants.{Clean, Clear, Forget, Get, Put, PutAll, Reopen, Start}

-- ---- an event on a device that is on

-- it is answered at once, or takes its steps, whole or cut
pub data Meets (once : Option Answer) (steps : List Step) (whole cut : Answer) (old : Device)
    (answer : Answer) (new : Device) : Type 0 where
  AtOnce : once ≡ Some answer → new ≡ old → Meets once steps whole cut old answer new
  Whole : once ≡ None → answer ≡ whole → Completes steps old new
      → Meets once steps whole cut old answer new
  WasCut : once ≡ None → answer ≡ cut → IsCutAmong steps old new
      → Meets once steps whole cut old answer new

abbrev pub IsMet : Event → Device → Answer → Device → Type 0
IsMet event old answer new =
    Meets (event_at_once event old) (steps_of_event event old) (answer_when_done event old)
    (answer_when_cut event) old answer new

module _ (old : Device) where
  abbrev slots : ℕ
  slots = capacity old

  abbrev state : State
  state = state_of old

  abbrev making : Change → Bool → List Step
  making change b = cond b (steps_of_append change old) (steps_of_transfer (change ∷ []) old)

  module _ (new : Device) where
    still_on : {A : Type 0} → IsOn old → IsOff old → A
    still_on on off = absurd (true≢false (sym on ∙ off))

    -- ---- changes

    module _ (no_place spent cut : Answer) where
      abbrev Changed : List Change → Answer → Type 0
      Changed changes answer =
          Meets (refusal_of no_place spent changes slots state) (steps_of_making changes old)
          (Done (written_by changes old)) cut old answer new

      goes : (changes : List Change) → IsAccepted slots state changes
          → refusal_of no_place spent changes slots state ≡ None
      goes changes accepted = not_refused slots state changes no_place spent accepted

      by_free : (free : Bool) (change : Change) → nat_lt state.fill slots ≡ free
          → Proceeds old (change ∷ []) → Completes (making change free) old new
          → Changed (change ∷ []) (Done (cond free Appended Moved))
      by_free free change is proceeds taken =
          Whole (goes (change ∷ []) proceeds.accepted)
          (ap (λ b. Done (cond b Appended Moved)) (sym is))
          (subst (λ steps. Completes steps old new) (sym (ap (making change) is)) taken)

      appended : (change : Change) → Appends old change new
          → Changed (change ∷ []) (Done Appended)
      appended change appends =
          by_free true change (lt-ltb state.fill slots appends.free) appends.proceeds appends.steps

      moved : (changes : List Change) → Moves old changes new → Changed changes (Done Moved)
      moved [] moves = absurd moves.needed
      moved (change ∷ []) moves =
          let needed = moves.needed in
          by_free false change (le-ltb state.fill slots (omega (arith, needed))) moves.proceeds
          moves.steps
      moved (one ∷ two ∷ more) moves =
          Whole (goes (one ∷ two ∷ more) moves.proceeds.accepted) refl moves.steps

      cut_making : (changes : List Change) → IsCutMaking old changes new → Changed changes cut
      cut_making [] cut = absurd cut
      cut_making (change ∷ []) cut =
          WasCut (goes (change ∷ []) cut.proceeds.accepted) refl cut.steps
      cut_making (one ∷ two ∷ more) cut =
          WasCut (goes (one ∷ two ∷ more) cut.proceeds.accepted) refl cut.steps

      placeless : (changes : List Change) → HaveNoPlace slots state changes → new ≡ old
          → Changed changes no_place
      placeless changes none same =
          AtOnce (refused_place slots state changes no_place spent none) same

      is_spent : (changes : List Change) → ¬ HaveNoPlace slots state changes
          → HaveNoGeneration slots state changes → new ≡ old → Changed changes spent
      is_spent changes has none same =
          AtOnce (refused_spent slots state changes no_place spent has none) same

    pub put_met : (address value : ℕ) (answer : Answer)
        → IsCalled (call_of_event (Put address value) answer) old new
        → IsMet (Put address value) old answer new
    put_met address value (Done Appended) called =
        appended (Refused write.Full) (Refused write.Spent) (Refused write.Cut)
        (meaning.Put address value) called.1
    put_met address value (Done Moved) called =
        moved (Refused write.Full) (Refused write.Spent) (Refused write.Cut)
        (meaning.Put address value ∷ []) called.1
    put_met address value (Refused write.Off) called = still_on called.0 called.1.0
    put_met address value (Refused write.Full) called =
        placeless (Refused write.Full) (Refused write.Spent) (Refused write.Cut)
        (meaning.Put address value ∷ []) called.1.1 called.1.2
    put_met address value (Refused write.Spent) called =
        is_spent (Refused write.Full) (Refused write.Spent) (Refused write.Cut)
        (meaning.Put address value ∷ []) called.1.1 called.1.2 called.1.3
    put_met address value (Refused write.Memory) called = absurd called
    put_met address value (Refused write.Cut) called =
        cut_making (Refused write.Full) (Refused write.Spent) (Refused write.Cut)
        (meaning.Put address value ∷ []) called.1
    put_met address value answer called = absurd called

    pub forget_met : (address : ℕ) (answer : Answer)
        → IsCalled (call_of_event (Forget address) answer) old new
        → IsMet (Forget address) old answer new
    forget_met address (Done Appended) called =
        appended (NotForgotten forget.Absent) (NotForgotten forget.Spent) (NotForgotten forget.Cut)
        (meaning.Forget address) called.1
    forget_met address (Done Moved) called =
        moved (NotForgotten forget.Absent) (NotForgotten forget.Spent) (NotForgotten forget.Cut)
        (meaning.Forget address ∷ []) called.1
    forget_met address (NotForgotten forget.Off) called = still_on called.0 called.1.0
    forget_met address (NotForgotten forget.Absent) called =
        placeless (NotForgotten forget.Absent) (NotForgotten forget.Spent) (NotForgotten forget.Cut)
        (meaning.Forget address ∷ []) called.1.1 called.1.2
    forget_met address (NotForgotten forget.Spent) called =
        is_spent (NotForgotten forget.Absent) (NotForgotten forget.Spent) (NotForgotten forget.Cut)
        (meaning.Forget address ∷ []) called.1.1 called.1.2 called.1.3
    forget_met address (NotForgotten forget.Cut) called =
        cut_making (NotForgotten forget.Absent) (NotForgotten forget.Spent)
        (NotForgotten forget.Cut) (meaning.Forget address ∷ []) called.1
    forget_met address answer called = absurd called

    -- ---- a list

    abbrev at_once : Option ℕ → List listed.Put → Option Answer
    at_once twice puts = list_at_once twice (puts_of puts) slots state

    abbrev IsListMet : List listed.Put → Answer → Type 0
    IsListMet puts answer =
        Meets (at_once (first_of (is_twice puts) 0 (length puts)) puts)
        (steps_of_making (puts_of puts) old) (Done (written_by (puts_of puts) old))
        (NotWritten all.Cut) old answer new

    -- one that isn't empty, and has each address once, is met as its changes are
    as_changes : (puts : List listed.Put) (answer : Answer) → IsEachOnce puts → puts ≢ []
        → Changed (NotWritten all.Full) (NotWritten all.Spent) (NotWritten all.Cut) (puts_of puts)
        answer
        → IsListMet puts answer
    as_changes [] answer once some met = absurd (some refl)
    as_changes (put ∷ more) answer once some met =
        let puts = put ∷ more in
        subst
        (λ found. Meets (at_once found puts) (steps_of_making (puts_of puts) old)
        (Done (written_by (puts_of puts) old)) (NotWritten all.Cut) old answer new)
        (sym (first_none (is_twice puts) 0 (length puts) once)) met

    not_empty : (puts : List listed.Put) (P : List Change → Type 0) → (P [] → ⊥)
        → P (puts_of puts) → puts ≢ []
    not_empty puts P never holds e =
        never (subst (λ (list : List listed.Put). P (puts_of list)) e holds)

    one_once : (put : listed.Put) → IsEachOnce (put ∷ [])
    one_once put zero = refl
    one_once put (suc place) = refl

    list_appended : (puts : List listed.Put) → AppendsAll old puts new
        → IsListMet puts (Done Appended)
    list_appended [] appends = AtOnce refl appends.1
    list_appended (put ∷ []) appends =
        as_changes (put ∷ []) (Done Appended) (one_once put) (λ e. absurd (cc e))
        (appended _ _ _ _ appends)
    list_appended (one ∷ two ∷ more) appends = absurd appends

    pub put_all_met : (puts : Bor (List listed.Put)) (answer : Answer)
        → IsCalled (call_of_event (PutAll puts) answer) old new
        → IsMet (PutAll puts) old answer new
    put_all_met puts (Done Appended) called = list_appended puts.now called.1
    put_all_met puts (Done Moved) called =
        as_changes puts.now (Done Moved) called.1.0
        (not_empty puts.now (NeedsTransfer slots state) (λ none. none) called.1.1.needed)
        (moved _ _ _ _ called.1.1)
    put_all_met puts (NotWritten all.Off) called = still_on called.0 called.1.0
    put_all_met puts (NotWritten (all.Twice place)) called =
        let twice = called.1.1 in
        let within = twice_within puts.now place twice.twice in
        AtOnce
        (ap (λ found. at_once found puts.now)
        (first_found (is_twice puts.now) 0 (length puts.now) place (omega arith)
        (omega (arith, within)) twice.twice twice.none_before)) called.1.2
    put_all_met puts (NotWritten all.Full) called =
        as_changes puts.now (NotWritten all.Full) called.1.1
        (not_empty puts.now (HaveNoPlace slots state) (λ none. none) called.1.2)
        (placeless _ _ _ _ called.1.2 called.1.3)
    put_all_met puts (NotWritten all.Spent) called =
        as_changes puts.now (NotWritten all.Spent) called.1.1
        (not_empty puts.now (HaveNoGeneration slots state) (λ none. none) called.1.3)
        (is_spent _ _ _ _ called.1.2 called.1.3 called.1.4)
    put_all_met puts (NotWritten all.Memory) called = absurd called
    put_all_met puts (NotWritten all.Cut) called =
        as_changes puts.now (NotWritten all.Cut) called.1.0
        (not_empty puts.now (λ changes. IsCutMaking old changes new) (λ none. none) called.1.1)
        (cut_making _ _ _ _ called.1.1)
    put_all_met puts answer called = absurd called

    -- ---- a clear and a clean step

    abbrev cleared_by : Bool → Bool → Option Answer
    cleared_by none last =
        cond none (Some (Cleared false)) (cond last (Some (NotCleared clear.Spent)) None)

    abbrev is_last : Bool
    is_last = state.generation == greatest_generation

    clear_goes : MayClear old → event_at_once Clear old ≡ None
    clear_goes may =
        ap (λ b. cleared_by b is_last)
        (ne_eqb state.fill 0 (λ none. let some = may.used in omega (arith, some, none)))
        ∙ ap (cleared_by false) (ne_eqb state.generation greatest_generation may.not_last)

    pub clear_met : (answer : Answer) → IsCalled (call_of_event Clear answer) old new
        → IsMet Clear old answer new
    clear_met (Cleared true) called = Whole (clear_goes called.1.may) refl called.1.steps
    clear_met (Cleared false) called =
        AtOnce (ap (λ b. cleared_by b is_last) (eq-eqb state.fill 0 called.1.1)) called.1.2
    clear_met (NotCleared clear.Off) called = still_on called.0 called.1.0
    clear_met (NotCleared clear.Spent) called =
        AtOnce
        (ap (λ b. cleared_by b is_last)
        (ne_eqb state.fill 0 (λ none. let some = called.1.1 in omega (arith, some, none)))
        ∙ ap (cleared_by false) (eq-eqb state.generation greatest_generation called.1.2))
        called.1.3
    clear_met (NotCleared clear.Cut) called = WasCut (clear_goes called.1.may) refl called.1.steps
    clear_met answer called = absurd called

    clean_goes : 0 < state.pending → event_at_once Clean old ≡ None
    clean_goes some =
        ap (λ b. cond b (Some (Cleaned false)) None)
        (ne_eqb state.pending 0 (λ none. omega (arith, some, none)))

    pub clean_met : (answer : Answer) → IsCalled (call_of_event Clean answer) old new
        → IsMet Clean old answer new
    clean_met (Cleaned true) called = Whole (clean_goes called.1.some) refl called.1.steps
    clean_met (Cleaned false) called =
        AtOnce (ap (λ b. cond b (Some (Cleaned false)) None) (eq-eqb state.pending 0 called.1.1))
        called.1.2
    clean_met (Refused write.Off) called = still_on called.0 called.1.0
    clean_met (Refused write.Full) called = absurd called.1
    clean_met (Refused write.Spent) called = absurd called.1
    clean_met (Refused write.Memory) called = absurd called.1
    clean_met (Refused write.Cut) called = WasCut (clean_goes called.1.some) refl called.1.steps
    clean_met answer called = absurd called

    pub get_met : (address : ℕ) (answer : Answer)
        → IsCalled (call_of_event (Get address) answer) old new
        → IsMet (Get address) old answer new
    get_met address (Value value) called =
        AtOnce (ap (λ found. Some (Value found)) (sym called.1.0.1)) called.1.1
    get_met address answer called = absurd called

    -- ---- an opening

    has_live : IsLegal old → is_some (live_of old) ≡ true
    has_live legal = ap is_some legal.2.live

    no_live : IsStartable old → live_of old ≡ None
    no_live startable =
        ap (λ one. greater_set one (committed_generation (set_of Second old)))
        (startable.uncommitted First)
        ∙ ap (greater_set None) (startable.uncommitted Second)

    abbrev opened_by : Bool → Option Answer
    opened_by there = cond there None (Some (NotOpened (opening.Scan (fault_of old))))

    abbrev started_by : Bool → List Step
    started_by there = cond there (steps_of_open old) (steps_of_format old)

    abbrev IsBlank : List Word → Type 0
    IsBlank page = is_blank page ≡ true

    all_blank : (pages : List (List Word)) → list_all is_blank pages ≡ true → All IsBlank pages
    all_blank [] is = All-nil IsBlank
    all_blank (page ∷ pages) is =
        let parts = both_true (is_blank page) (list_all is_blank pages) is in
        All-cons IsBlank page pages parts.0 (all_blank pages parts.1)

    blank_all : (pages : List (List Word)) → All IsBlank pages → list_all is_blank pages ≡ true
    blank_all [] blank = refl
    blank_all (page ∷ pages) blank =
        ap (λ b. b && list_all is_blank pages) (All-head IsBlank page pages blank)
        ∙ blank_all pages (All-tail IsBlank page pages blank)

    fault_by : (blank : Bool) → list_all is_blank old.image ≡ blank → IsStartable old
        → IsScanFault old (cond blank Unformatted NoLiveSet)
    fault_by true is startable = all_blank old.image is
    fault_by false is startable = (
      λ blank. true≢false (sym (blank_all old.image blank) ∙ is),
      startable.uncommitted First,
      startable.uncommitted Second,
    )

    formats : IsStartable old → steps_of_event Start old ≡ steps_of_format old
    formats startable = ap started_by (ap is_some (no_live startable))

    opens_as : IsLegal old → steps_of_event Start old ≡ steps_of_open old
    opens_as legal = ap started_by (has_live legal)

abbrev pub IsGood : Device → Type 0
IsGood device = IsLegal device ⊎ IsStartable device

module _ (given new : Device) where
  abbrev old : Device
  old = with_power_on given

  pub reopen_met : (answer : Answer) → IsGood old → Reopens answer given new
      → IsMet Reopen old answer new
  reopen_met Opened stands opens =
      Whole (ap (opened_by old new) (has_live old new opens.legal)) refl opens.steps
  reopen_met (NotOpened opening.Cut) stands cut =
      WasCut (ap (opened_by old new) (has_live old new cut.was_legal)) refl cut.steps
  reopen_met (NotOpened (opening.Scan fault)) (inl legal) fails =
      absurd (legal_is_good old fault legal fails.0)
  reopen_met (NotOpened (opening.Scan fault)) (inr startable) fails =
      let is : fault ≡ fault_of old =
      one_scan_fault old fault (fault_of old) fails.0
      (fault_by old new (list_all is_blank old.image) refl startable) in
      AtOnce
      (ap (opened_by old new) (ap is_some (no_live old new startable))
      ∙ ap (λ one. Some (NotOpened (opening.Scan one))) (sym is)) fails.1
  reopen_met answer stands opens = absurd opens

  pub start_met : (answer : Answer) → IsGood old → StartsUp answer given new
      → IsMet Start old answer new
  start_met Opened stands (inl first) =
      Whole refl refl
      (subst (λ steps. Completes steps old new) (sym (formats old new first.0)) first.1.steps)
  start_met Opened stands (inr opens) =
      Whole refl refl
      (subst (λ steps. Completes steps old new) (sym (opens_as old new opens.legal)) opens.steps)
  start_met (NotOpened opening.Cut) stands (inl cut) =
      WasCut refl refl
      (subst (λ steps. IsCutAmong steps old new) (sym (formats old new cut.was_startable))
      cut.cut.steps)
  start_met (NotOpened opening.Cut) stands (inr cut) =
      WasCut refl refl
      (subst (λ steps. IsCutAmong steps old new) (sym (opens_as old new cut.was_legal)) cut.steps)
  start_met (NotOpened (opening.Scan fault)) (inl legal) fails =
      absurd (legal_is_good old fault legal fails.1)
  start_met (NotOpened (opening.Scan fault)) (inr startable) fails = absurd (fails.0 startable)
  start_met answer stands starts = absurd starts
