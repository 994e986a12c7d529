-- An image gives one start and a script one trace, so a plan and a check have one cause at most
-- for which they fail.
use Rattle.std.proofs.Common.{◌≡◌, ◌≢◌, ◌⊎◌, inl, inr, ℕ, Bool, true, None, List, refl, sym, ap, ◌∙◌, subst, rules}
use Rattle.std.proofs.lemmas.Cmp.{nat_cmp_total}
use Rattle.std.proofs.lemmas.List.Elements.{All-contains}
use Rattle.std.proofs.lemmas.Map.Lookups.{btree_set_from_contains, exact_unsigned}
use Rattle.std.proofs.lemmas.Map.Views.{btree_set_contains_iff}
use Rattle.std.specs.BTreeSet.{BTreeSet, contains}
use Rattle.std.specs.List.{Contains}
use Rattle.std.specs.Ordering.{nat_cmp}
use Rattle.ee_flash.specs.Device.{Device}
use Rattle.ee_flash.specs.Size.{Size, slot_count}
use Rattle.ee_pages.specs.Meaning.{Map}
use Rattle.ee_core.specs.State.{State, state_of}
use Rattle.ee_interface.specs.declared.script.session.ScriptFault.{ScriptFault}
use Rattle.ee_interface.specs.declared.script.session.ScriptFault.TheVariants as script
use Rattle.ee_interface.proofs.ScriptLemmas.Public.{one_reading}
use Rattle.ee_check.specs.declared.change.Change.{Change}
use Rattle.ee_check.specs.declared.checking.CheckFault.{CheckFault}
use Rattle.ee_check.specs.declared.checking.CheckFault.TheVariants as check
use Rattle.ee_check.specs.declared.reading.TextFault.{TextFault}
use Rattle.ee_check.specs.declared.reading.TextFault.TheVariants as spelled
use Rattle.ee_check.specs.Certificate.{Claim}
use Rattle.ee_check.specs.Fault.{IsCause}
use Rattle.ee_check.specs.Schedule.{Situation}
use Rattle.ee_check.specs.Text.{IsText, IsCertificateTextFault}
use Rattle.ee_check.proofs.Public.{one_bad_line, one_text_lem, texts_are_good_lem}
use Rattle.ee_plan.specs.Planner.Plan.{IsFirstNotFitting, IsPlanFault}
use Rattle.ee_plan.specs.Start.{AreLive, IsStartOf}
use Rattle.ee_plan.specs.declared.planner.planned.PlanFault.{PlanFault}
use Rattle.ee_plan.specs.declared.planner.planned.PlanFault.TheVariants as plan
use Rattle.ee_interface.specs.Fault.{fault_of_certificate, fault_of_check, fault_of_replay, fault_of_script}
use Rattle.ee_interface.specs.declared.fault.Fault.{Fault}
use Rattle.ee_interface.specs.declared.fault.Fault.TheVariants.{Memory, NotFitting}
use Rattle.ee_interface.specs.declared.replay_fault.ReplayFault.{ReplayFault}
use Rattle.ee_interface.specs.declared.replay_fault.ReplayFault.TheVariants as replay
use Rattle.ee_image_store.specs.Opening.{IsOpenFault, IsOpened, IsStoreText}
use Rattle.ee_commands.specs.Planning.{fault_of_plan, IsCertificateFault, IsCheckingFault, IsImageStart, IsPlanningFault, IsRefusal, IsTask, IsTaskFault, IsTrace, IsTraceFault}
use Rattle.ee_image_store.proofs.Public.{one_open_fault, store_is_good, memory_or_not, same_at_rest, same_state}
use Rattle.ee_commands.proofs.Traces.{one_first_bad_line, traces_are_good}

-- ---- one start

both_or_none : (a b : Bool) → (a ≡ true → b ≡ true) → (b ≡ true → a ≡ true) → a ≡ b
both_or_none a b h1 h2 = search rules

has_too : (map : Map) (live other : List ℕ) (address : ℕ) → AreLive map live → AreLive map other
    → Contains live address → Contains other address
has_too map live other address first second has =
    second.all address (All-contains (λ a. map a ≢ None) live address first.have_values has)

set : List ℕ → BTreeSet ℕ
set keys = record { keys = keys }

one_live : (map : Map) (live other : List ℕ) → AreLive map live → AreLive map other → live ≡ other
unfolding set
one_live map live other first second =
    let is =
    λ (keys : List ℕ) (q : ℕ).
    btree_set_contains_iff nat_cmp_total exact_unsigned (set keys) q in
    btree_set_from_contains nat_cmp_total (set live) (set other) first.ascending second.ascending
    (λ q. both_or_none (contains nat_cmp (set live) q) (contains nat_cmp (set other) q)
    (λ has. (is other q).1 (has_too map live other q first second ((is live q).0 has)))
    (λ has. (is live q).1 (has_too map other live q second first ((is other q).0 has))))
    exact_unsigned

same_start : (start other : Situation) → start.slots ≡ other.slots → start.fill ≡ other.fill
    → start.live ≡ other.live → start ≡ other
same_start start other slots fill live = search rules

pub one_start : (image : List ℕ) (start other : Situation) → IsImageStart image start
    → IsImageStart image other → start ≡ other
one_start image start other first second =
    let same =
    same_at_rest image first.device second.device first.store.spelled second.store.spelled in
    let size = ap (λ (d : Device). slot_count d.size) same in
    let state = same_state first.device second.device same in
    let live : AreLive (state_of second.device).map start.live =
    subst (λ (s : State). AreLive s.map start.live) state first.start_is.are_live in
    same_start start other
    (first.start_is.slots_are ∙ size ∙ sym second.start_is.slots_are)
    (first.start_is.fill_is ∙ ap (λ (s : State). s.fill) state ∙ sym second.start_is.fill_is)
    (one_live (state_of second.device).map start.live other.live live second.start_is.are_live)

-- ---- one trace

pub one_trace : (text : List ℕ) (trace other : List Change) → IsTrace text trace
    → IsTrace text other → trace ≡ other
one_trace text trace other first second = search (rules, one_reading)

-- ---- names

-- a cause whose name isn't want of memory isn't either
pub other_cause : {Cause : Type 0} (named : Cause → Fault) (fault : Fault) (cause memory : Cause)
    → fault ≢ Memory → fault ≡ named cause → named memory ≡ Memory → cause ≢ memory
other_cause named fault cause memory some is wanting = λ e. some (is ∙ ap named e ∙ wanting)

-- one cause has one name
pub one_name : {Cause : Type 0} (named : Cause → Fault) (fault other : Fault)
    (cause second memory : Cause)
    → fault ≡ named cause → other ≡ named second → named memory ≡ Memory
    → (second ≡ cause) ⊎ (second ≡ memory) → (other ≡ fault) ⊎ (other ≡ Memory)
one_name named fault other cause second memory h1 h2 h3 h4 = search rules

-- ---- one fault of a start and a trace

pub one_trace_fault : (text : List ℕ) (cause fault : ScriptFault) → cause ≢ script.Memory
    → IsTraceFault text cause → IsTraceFault text fault → (fault ≡ cause) ⊎ (fault ≡ script.Memory)
one_trace_fault text cause fault h1 h2 h3 = search (rules, one_first_bad_line)

-- where a store is opened an image's fault is want of memory
opened_memory : (image : List ℕ) (device : Device) (cause : ReplayFault) → IsStoreText image device
    → IsOpenFault image cause → cause ≡ replay.Memory
opened_memory image device cause store bad = search (rules, memory_or_not, store_is_good)

-- where there is a trace its fault is want of memory
pub trace_memory : (text : List ℕ) (trace : List Change) (cause : ScriptFault) → IsTrace text trace
    → IsTraceFault text cause → cause ≡ script.Memory
trace_memory text trace (script.BadLine n) is bad = absurd (traces_are_good text trace n is bad)
trace_memory text trace script.Memory is bad = refl

pub one_task_fault : (image text : List ℕ) (cause fault : Fault) → cause ≢ Memory
    → IsTaskFault image text cause → IsTaskFault image text fault
    → (fault ≡ cause) ⊎ (fault ≡ Memory)
one_task_fault image text cause fault some (inl h) (inl i) =
    one_name fault_of_replay cause fault h.cause i.cause replay.Memory h.fault_is i.fault_is refl
    (one_open_fault image h.cause i.cause
    (other_cause fault_of_replay cause h.cause replay.Memory some h.fault_is refl) h.applies
    i.applies)
one_task_fault image text cause fault some (inl h) (inr i) =
    absurd
    (other_cause fault_of_replay cause h.cause replay.Memory some h.fault_is refl
    (opened_memory image i.0.0 h.cause i.0.1 h.applies))
one_task_fault image text cause fault some (inr h) (inl i) =
    inr (i.fault_is ∙ ap fault_of_replay (opened_memory image h.0.0 i.cause h.0.1 i.applies))
one_task_fault image text cause fault some (inr h) (inr i) =
    one_name fault_of_script cause fault h.1.cause i.1.cause script.Memory h.1.fault_is i.1.fault_is
    refl
    (one_trace_fault text h.1.cause i.1.cause
    (other_cause fault_of_script cause h.1.cause script.Memory some h.1.fault_is refl)
    h.1.applies i.1.applies)

-- where a start and a trace are had it is want of memory
pub only_memory : (image text : List ℕ) (start : Situation) (trace : List Change) (fault : Fault)
    → IsTask image text start trace → IsTaskFault image text fault → fault ≡ Memory
only_memory image text start trace fault task (inl h) =
    h.fault_is
    ∙ ap fault_of_replay
    (opened_memory image task.start_is.device h.cause task.start_is.store h.applies)
only_memory image text start trace fault task (inr h) =
    h.1.fault_is ∙ ap fault_of_script (trace_memory text trace h.1.cause task.trace_is h.1.applies)

-- ---- one fault of a plan

pub first_of_plan : (image text : List ℕ) (cause fault : Fault) → cause ≢ Memory
    → IsPlanningFault image text cause → IsTaskFault image text fault
    → (fault ≡ cause) ⊎ (fault ≡ Memory)
first_of_plan image text cause fault some (inl h) i = one_task_fault image text cause fault some h i
first_of_plan image text cause fault some (inr h) i =
    inr (only_memory image text h.0 h.1 fault h.2 i)

-- what holds of one start and one trace holds of the others
same_task : (P : Situation → List Change → Type 0) (image text : List ℕ) (start other : Situation)
    (trace more : List Change)
    → IsTask image text start trace → IsTask image text other more → P start trace → P other more
same_task P image text start other trace more task again holds =
    subst (λ l. P other l) (one_trace text trace more task.trace_is again.trace_is)
    (subst (λ s. P s trace) (one_start image start other task.start_is again.start_is) holds)

-- a fault but for want of memory names the first change that does not fit
pub record NamesChange (start : Situation) (trace : List Change) (fault : Fault) : Type 0 where
  pub n : ℕ
  pub first : IsFirstNotFitting start trace n
  pub fault_is : fault ≡ NotFitting n

names_change : (start : Situation) (trace : List Change) (fault : Fault) (cause : PlanFault)
    → fault ≢ Memory → IsPlanFault start trace cause → fault ≡ fault_of_plan cause
    → NamesChange start trace fault
names_change start trace fault cause h1 h2 h3 = search rules

pub change_of_plan : (image text : List ℕ) (start : Situation) (trace : List Change) (cause : Fault)
    → cause ≢ Memory → IsPlanningFault image text cause → IsTask image text start trace
    → NamesChange start trace cause
change_of_plan image text start trace cause some (inl h) task =
    absurd (some (only_memory image text start trace cause task h))
change_of_plan image text start trace cause some (inr h) task =
    same_task (λ s l. NamesChange s l cause) image text h.0 start h.1 trace h.2 task
    (names_change h.0 h.1 cause h.3.cause some h.3.applies h.3.fault_is)

-- ---- one fault of a check

pub first_of_check : (image text certificate : List ℕ) (cause fault : Fault) → cause ≢ Memory
    → IsCheckingFault image text certificate cause → IsTaskFault image text fault
    → (fault ≡ cause) ⊎ (fault ≡ Memory)
first_of_check image text certificate cause fault some (inl h) i =
    one_task_fault image text cause fault some h i
first_of_check image text certificate cause fault some (inr h) i =
    inr (only_memory image text h.0 h.1 fault h.2 i)

-- where a start and a trace are had it is a fault of the certificate
pub later_of_check : (image text certificate : List ℕ) (start : Situation) (trace : List Change)
    (cause : Fault)
    → cause ≢ Memory → IsCheckingFault image text certificate cause → IsTask image text start trace
    → IsCertificateFault start trace certificate cause
later_of_check image text certificate start trace cause some (inl h) task =
    absurd (some (only_memory image text start trace cause task h))
later_of_check image text certificate start trace cause some (inr h) task =
    same_task (λ s l. IsCertificateFault s l certificate cause) image text h.0 start h.1 trace h.2
    task h.3

one_text_fault : (certificate : List ℕ) (cause fault : TextFault) → cause ≢ spelled.Memory
    → IsCertificateTextFault certificate cause → IsCertificateTextFault certificate fault
    → (fault ≡ cause) ⊎ (fault ≡ spelled.Memory)
one_text_fault certificate cause fault h1 h2 h3 = search (rules, one_bad_line)

-- where the text says a claim its fault is want of memory
text_memory : (certificate : List ℕ) (claim : Claim) (cause : TextFault) → IsText certificate claim
    → IsCertificateTextFault certificate cause → cause ≡ spelled.Memory
text_memory certificate claim cause h1 h2 = search (rules, texts_are_good_lem)

pub text_of_check : (start : Situation) (trace : List Change) (certificate : List ℕ) (cause : Fault)
    (fault : TextFault)
    → cause ≢ Memory → IsCertificateFault start trace certificate cause
    → IsCertificateTextFault certificate fault
    → (fault_of_certificate fault ≡ cause) ⊎ (fault_of_certificate fault ≡ Memory)
text_of_check start trace certificate cause fault some (inl h) bad =
    one_name fault_of_certificate cause (fault_of_certificate fault) h.cause fault spelled.Memory
    h.fault_is refl refl
    (one_text_fault certificate h.cause fault
    (other_cause fault_of_certificate cause h.cause spelled.Memory some h.fault_is refl)
    h.applies bad)
text_of_check start trace certificate cause fault some (inr h) bad =
    inr (ap fault_of_certificate (text_memory certificate h.0 fault h.1 bad))

-- a fault but for want of memory has its cause in the claim
pub record NamesCause (start : Situation) (trace : List Change) (claim : Claim) (fault : Fault)
    : Type 0 where
  pub cause : CheckFault
  pub applies : IsCause start trace claim cause
  pub fault_is : fault ≡ fault_of_check cause

names_cause : (start : Situation) (trace : List Change) (claim : Claim) (fault : Fault)
    (cause : CheckFault)
    → fault ≢ Memory → IsRefusal start trace claim cause → fault ≡ fault_of_check cause
    → NamesCause start trace claim fault
names_cause start trace claim fault cause h1 h2 h3 = search rules

pub cause_of_check : (start : Situation) (trace : List Change) (certificate : List ℕ)
    (claim : Claim) (cause : Fault)
    → cause ≢ Memory → IsCertificateFault start trace certificate cause → IsText certificate claim
    → NamesCause start trace claim cause
cause_of_check start trace certificate claim cause some (inl h) is =
    absurd
    (some
    (h.fault_is
    ∙ ap fault_of_certificate (text_memory certificate claim h.cause is h.applies)))
cause_of_check start trace certificate claim cause some (inr h) is =
    subst (λ said. NamesCause start trace said cause) (one_text_lem certificate h.0 claim h.1 is)
    (names_cause start trace h.0 cause h.2.cause some h.2.applies h.2.fault_is)

-- ---- what a start and a trace are made of

pub is_task : (image text : List ℕ) (store : Device) (start : Situation) (trace : List Change)
    → IsOpened image store → IsStartOf (slot_count store.size) (state_of store) start
    → IsTrace text trace → IsTask image text start trace
is_task image text store start trace opened start_is trace_is = record {
  start_is = record {
    device = opened.device;
    store = opened.old;
    start_is =
        subst (λ (state : State). IsStartOf (slot_count opened.device.size) state start)
        opened.state_is
        (subst (λ (size : Size). IsStartOf (slot_count size) (state_of store) start)
        opened.same_size start_is);
  };
  trace_is = trace_is;
}

-- the trace, by another name; that they are one is found anew at each call, so that another
-- trace leaves a goal open
pub trace_renamed : (image text : List ℕ) (start : Situation) (trace other : List Change)
    → IsTask image text start trace → trace ≡ other → IsTask image text start other
trace_renamed image text start trace other task same =
    subst (λ changes. IsTask image text start changes) same task

pub no_trace : (image text : List ℕ) (store : Device) (fault : ScriptFault) → IsOpened image store
    → IsTraceFault text fault → IsTaskFault image text (fault_of_script fault)
no_trace image text store fault opened bad =
    inr ((opened.device, opened.old), record { cause = fault; applies = bad; fault_is = refl })

-- a claim that is read and refused
pub not_proved : (image text certificate : List ℕ) (start : Situation) (trace : List Change)
    (claim : Claim) (fault : CheckFault)
    → IsTask image text start trace → IsText certificate claim → IsRefusal start trace claim fault
    → IsCheckingFault image text certificate (fault_of_check fault)
not_proved image text certificate start trace claim fault task spelled refused = search rules

-- ---- one answer, as the shell names it

pub change_named : (cause : Fault) (fault : PlanFault) (n : ℕ) → cause ≡ NotFitting n
    → (fault ≡ plan.NotFitting n) ⊎ (fault ≡ plan.Memory)
    → (fault_of_plan fault ≡ cause) ⊎ (fault_of_plan fault ≡ Memory)
change_named cause fault n h1 h2 = search rules

pub cause_named : (cause : Fault) (fault known : CheckFault) → cause ≡ fault_of_check known
    → (fault ≡ known) ⊎ (fault ≡ check.Memory)
    → (fault_of_check fault ≡ cause) ⊎ (fault_of_check fault ≡ Memory)
cause_named cause fault known h1 h2 = search rules
