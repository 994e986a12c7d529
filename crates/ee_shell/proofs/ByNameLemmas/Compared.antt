-- Entries that are compared one after another, and that one fault at most applies to them.
use Rattle.std.proofs.Common.{◌≡◌, ◌⊎◌, ◌∙◌, ◌+◌, ℕ, suc, Bool, true, false, List, [], ◌∷◌, ◌++◌, length, Some, inl, inr, refl, sym, ap, subst, append-nil, append_assoc, arith}
use Rattle.std.proofs.lemmas.List.Elements.{All-head, All-tail}
use Rattle.std.specs.List.{All}
use Rattle.std.specs.Prelude.{◌&&◌, pos}
use Rattle.toml.specs.Data.{Data, Members}
use Rattle.ee_flash.specs.Device.{Device}
use Rattle.ee_core.specs.State.{state_of}
use Rattle.ee_settings.specs.File.{Entry, HaveRisingKeys, entries_of}
use Rattle.ee_settings.specs.Setting.{HaveRisingNames, IsInRange, IsSchema, Setting}
use Rattle.ee_settings.specs.declared.numbers.Numbers.{Numbers}
use Rattle.ee_interface.specs.declared.fault.Fault.{Fault}
use Rattle.ee_interface.specs.declared.fault.Fault.TheVariants.{Memory, ValuesText}
use Rattle.ee_image_store.proofs.Public.{no_memory_to_open}
use Rattle.ee_image_store.specs.Opening.{HasStore, IsOpened}
use Rattle.ee_shell.proofs.ByNameLemmas.Named.{one_named, one_tree, spelled_once}
use Rattle.ee_shell.proofs.ByNameLemmas.Steps.{fault_refuses, taken_stored}
use Rattle.ee_shell.proofs.ByNameLemmas.Stored.{applying_stores_values_lem}
use Rattle.ee_shell.proofs.ByNameLemmas.Taken.{one_number, one_refusal}
use Rattle.ee_shell.specs.ByName.Applying.{Applies, HasSettings, IsStored, TakesEntry}
use Rattle.ee_shell.specs.ByName.Settings.{HasNoTree, HasTree, SpellsSettings}
use Rattle.ee_shell.specs.ByName.Verifying.{AreCompared, IsCompared, IsEntryFault, IsEntryFaultIn, IsFirstEntryFault, IsVerifyFault, IsWanted, verified_text}

-- ---- what is told

both_again : (one other more : Bool) → (one && other) && more ≡ one && (other && more)
both_again true other more = refl
both_again false other more = refl

and_true : (one : Bool) → one ≡ one && true
and_true true = refl
and_true false = refl

-- one more entry is compared
pub compared_more : (settings : List Setting) (device : Device) (entries : List Entry)
    (entry : Entry) (same first : Bool) (text here : List ℕ)
    → AreCompared settings device entries same text → IsCompared settings device entry first here
    → AreCompared settings device (entries ++ entry ∷ []) (same && first) (text ++ here)
compared_more settings device [] entry same first text here h compared = (
  first,
  true,
  here,
  [],
  compared,
  (refl, refl),
  ap (λ (s : Bool). s && first) h.0 ∙ and_true first,
  ap (λ (t : List ℕ). t ++ here) h.1 ∙ sym (append-nil here),
)
compared_more settings device (e ∷ entries) entry same first text here h compared = (
  h.0,
  h.1 && first,
  h.2,
  h.3 ++ here,
  h.4,
  compared_more settings device entries entry h.1 first h.3 here h.5 compared,
  ap (λ (s : Bool). s && first) h.6 ∙ both_again h.0 h.1 first,
  ap (λ (t : List ℕ). t ++ here) h.7 ∙ append_assoc h.2 h.3 here,
)

-- ---- the faults

-- an entry is the first with a fault, behind those that were compared
pub first_behind : (settings : List Setting) (device : Device) (before after : List Entry)
    (entry : Entry) (taken number : ℕ) (same : Bool) (text : List ℕ) (fault : Fault)
    → number ≡ taken + length before + 1 → AreCompared settings device before same text
    → IsEntryFault settings number entry fault
    → IsFirstEntryFault settings (before ++ entry ∷ after) taken fault
first_behind settings device [] after entry taken number same text fault at h bad =
    let first : number ≡ taken + 0 + 1 = at in
    let here : number ≡ taken + 1 = omega arith in
    inl (subst (λ n. IsEntryFault settings n entry fault) here bad)
first_behind settings device (e ∷ before) after entry taken number same text fault at h bad =
    let later : number ≡ taken + suc (length before) + 1 = at in
    let further : number ≡ (taken + 1) + length before + 1 = omega arith in
    inr (
      h.4.0,
      h.4.1,
      h.4.2,
      first_behind settings device before after entry (taken + 1) number h.1 h.3 fault further
          h.5 bad,
    )

-- the same as the code finds them: all says whether all of them are stored
pub entry_compared : (settings : List Setting) (device : Device) (before grown : List Entry)
    (name text : List ℕ) (tree : Data) (same first all : Bool) (old new : List ℕ)
    → grown ≡ before ++ (text, tree) ∷ [] → name ≡ text → all ≡ same && first
    → AreCompared settings device before same old
    → (here : List ℕ) × IsCompared settings device (name, tree) first here × (new ≡ old ++ here)
    → AreCompared settings device grown all new
entry_compared settings device before grown name text tree same first all old new grows is both h
    found =
    rw (grows, both, found.2)
    (compared_more settings device before (text, tree) same first old found.0 h
    (subst (λ (n : List ℕ). IsCompared settings device (n, tree) first found.0) is found.1))

pub still_all : (same first : Bool) → same ≡ true → first ≡ same && first
still_all same first is = rw is refl

pub no_more_all : (same first : Bool) → same ≡ false → same ≡ same && first
no_more_all same first is = rw is refl

-- nothing is told of an entry that is stored
pub same_told : (settings : List Setting) (device : Device) (entry : Entry) (numbers : Numbers)
    (value : ℕ) (out : List ℕ)
    → IsWanted settings entry numbers value → (state_of device).map numbers.address ≡ Some value
    → (here : List ℕ) × IsCompared settings device entry true here × (out ≡ out ++ here)
same_told settings device entry numbers value out wanted stored =
    ([], (numbers, value, wanted, inl (stored, refl, refl)), sym (append-nil out))

pub verified_then : (same : Bool) (lines text : List ℕ) (entries count : ℕ)
    → same ≡ true → count ≡ entries → text ≡ lines ++ verified_text true count
    → text ≡ lines ++ verified_text same entries
verified_then same lines text entries count all counted is = rw (all, sym counted) is

pub verified_else : (same : Bool) (lines text : List ℕ) (entries : ℕ) → same ≡ false
    → text ≡ lines → text ≡ lines ++ verified_text same entries
verified_else same lines text entries all is = rw all (is ∙ sym (append-nil lines))

pub entry_fault : (settings : List Setting) (device : Device) (all before after : List Entry)
    (name text : List ℕ) (tree : Data) (number : ℕ) (same : Bool) (lines : List ℕ) (fault : Fault)
    → all ≡ before ++ (text, tree) ∷ after → name ≡ text → number ≡ length before + 1
    → AreCompared settings device before same lines
    → IsEntryFault settings number (name, tree) fault ⊎ (fault ≡ Memory)
    → IsFirstEntryFault settings all 0 fault ⊎ (fault ≡ Memory)
entry_fault settings device all before after name text tree number same lines fault split is at h
    (inr none) =
    inr none
entry_fault settings device all before after name text tree number same lines fault split is at h
    (inl bad) =
    let place : number ≡ 0 + length before + 1 = omega arith in
    inl
    (subst (λ (es : List Entry). IsFirstEntryFault settings es 0 fault) (sym split)
    (first_behind settings device before after (text, tree) 0 number same lines fault place h
    (subst (λ (n : List ℕ). IsEntryFault settings number (n, tree) fault) is bad)))

one_fault : (settings : List Setting) (device : Device) (number : ℕ) (entry : Entry)
    (fault cause : Fault)
    → HaveRisingNames settings → IsEntryFault settings number entry fault
    → IsEntryFault settings number entry cause → fault ≡ cause
one_fault settings device number entry fault cause rising h k =
    one_refusal settings device.size (state_of device) number entry fault cause rising
    (fault_refuses settings device.size (state_of device) number entry fault h)
    (fault_refuses settings device.size (state_of device) number entry cause k)

-- what asks for a value has no fault
wanted_good : (settings : List Setting) (number : ℕ) (entry : Entry) (numbers : Numbers) (value : ℕ)
    (fault : Fault)
    → HaveRisingNames settings → IsWanted settings entry numbers value
    → IsEntryFault settings number entry fault → ⊥
wanted_good settings number entry numbers value fault rising wanted (inl h) =
    h.0 (pos value) wanted.number
wanted_good settings number entry numbers value fault rising wanted (inr (inl h)) =
    h.2 wanted.setting wanted.named
wanted_good settings number entry numbers value fault rising wanted (inr (inr h)) =
    let same = one_named settings entry.0 wanted.setting h.2 rising wanted.named h.3 in
    h.4 value
    (subst (λ (ns : Numbers). IsInRange ns value)
    (sym wanted.numbers_are ∙ ap (λ (s : Setting). s.numbers) same) wanted.in_range)
    (one_number entry.1 h.0 (pos value) h.1 wanted.number)

first_once : (settings : List Setting) (device : Device) (entries : List Entry) (taken : ℕ)
    (fault cause : Fault)
    → HaveRisingNames settings → IsFirstEntryFault settings entries taken fault
    → IsFirstEntryFault settings entries taken cause → fault ≡ cause
first_once settings device [] taken fault cause rising h k = absurd h
first_once settings device (entry ∷ entries) taken fault cause rising (inl h) (inl k) =
    one_fault settings device (taken + 1) entry fault cause rising h k
first_once settings device (entry ∷ entries) taken fault cause rising (inl h) (inr k) =
    absurd (wanted_good settings (taken + 1) entry k.0 k.1 fault rising k.2 h)
first_once settings device (entry ∷ entries) taken fault cause rising (inr h) (inl k) =
    absurd (wanted_good settings (taken + 1) entry h.0 h.1 cause rising h.2 k)
first_once settings device (entry ∷ entries) taken fault cause rising (inr h) (inr k) =
    first_once settings device entries (taken + 1) fault cause rising h.3 k.3

-- entries that were all compared have none
compared_good : (settings : List Setting) (device : Device) (entries : List Entry) (taken : ℕ)
    (same : Bool) (text : List ℕ) (fault : Fault)
    → HaveRisingNames settings → AreCompared settings device entries same text
    → IsFirstEntryFault settings entries taken fault → ⊥
compared_good settings device [] taken same text fault rising h k = k
compared_good settings device (entry ∷ entries) taken same text fault rising h (inl k) =
    wanted_good settings (taken + 1) entry h.4.0 h.4.1 fault rising h.4.2 k
compared_good settings device (entry ∷ entries) taken same text fault rising h (inr k) =
    compared_good settings device entries (taken + 1) h.1 h.3 fault rising h.5 k.3

-- ---- the image

pub unread_fault : (image text values : List ℕ) (store : Device) (settings : List Setting)
    (fault : Fault)
    → IsOpened image store → SpellsSettings text settings
    → ((fault ≡ ValuesText) × HasNoTree values) ⊎ (fault ≡ Memory)
    → IsVerifyFault image text values fault
unread_fault image text values store settings fault opened spelled (inl h) =
    inr (inr (inl ((opened.device, opened.old), (settings, spelled), h.1, h.0)))
unread_fault image text values store settings fault opened spelled (inr none) =
    rw none (inl (no_memory_to_open image))

pub first_fault : (image text values : List ℕ) (store : Device) (settings : List Setting)
    (tree : Members) (fault : Fault)
    → IsOpened image store → SpellsSettings text settings → HasTree values tree
    → IsFirstEntryFault settings (entries_of tree) 0 fault ⊎ (fault ≡ Memory)
    → IsVerifyFault image text values fault
first_fault image text values store settings tree fault opened spelled has_tree (inl first) =
    inr
    (inr
    (inr
    (record {
      has_store = (opened.device, opened.old);
      settings = settings;
      spelled = spelled;
      tree = tree;
      has_tree = has_tree;
      first = first;
    })))
first_fault image text values store settings tree fault opened spelled has_tree (inr none) =
    rw none (inl (no_memory_to_open image))

-- a fault in the texts is one by these settings and this tree
first_there : (image text values : List ℕ) (settings : List Setting) (tree : Members)
    (cause : Fault)
    → SpellsSettings text settings → HasTree values tree
    → IsEntryFaultIn image text values cause
    → IsFirstEntryFault settings (entries_of tree) 0 cause
first_there image text values settings tree cause spelled has_tree h =
    subst (λ (ss : List Setting). IsFirstEntryFault ss (entries_of tree) 0 cause)
    (spelled_once text h.settings settings h.spelled spelled)
    (subst (λ (t : Members). IsFirstEntryFault h.settings (entries_of t) 0 cause)
    (one_tree values h.tree tree h.has_tree has_tree) h.first)

-- each cause of its own takes a store and settings
pub verify_takes : (image text values : List ℕ) (cause : Fault)
    → (HasStore image × HasSettings text × HasNoTree values × (cause ≡ ValuesText))
    ⊎ IsEntryFaultIn image text values cause
    → HasStore image × HasSettings text
verify_takes image text values cause (inl h) = (h.0, h.1)
verify_takes image text values cause (inr h) = (h.has_store, (h.settings, h.spelled))

pub verify_unread : (image text values : List ℕ) (fault cause : Fault)
    → ((fault ≡ ValuesText) × HasNoTree values) ⊎ (fault ≡ Memory)
    → (HasStore image × HasSettings text × HasNoTree values × (cause ≡ ValuesText))
    ⊎ IsEntryFaultIn image text values cause
    → (fault ≡ cause) ⊎ (fault ≡ Memory)
verify_unread image text values fault cause (inr none) h = inr none
verify_unread image text values fault cause (inl told) (inl h) = inl (told.0 ∙ sym h.3)
verify_unread image text values fault cause (inl told) (inr h) = absurd (told.1 h.tree h.has_tree)

pub verify_stopped : (image text values : List ℕ) (store : Device) (settings : List Setting)
    (tree : Members) (fault cause : Fault)
    → SpellsSettings text settings → HasTree values tree
    → IsFirstEntryFault settings (entries_of tree) 0 fault ⊎ (fault ≡ Memory)
    → (HasStore image × HasSettings text × HasNoTree values × (cause ≡ ValuesText))
    ⊎ IsEntryFaultIn image text values cause
    → (fault ≡ cause) ⊎ (fault ≡ Memory)
verify_stopped image text values store settings tree fault cause spelled has_tree (inr none) h =
    inr none
verify_stopped image text values store settings tree fault cause spelled has_tree (inl first)
    (inl h) =
    absurd (h.2 tree has_tree)
verify_stopped image text values store settings tree fault cause spelled has_tree (inl first)
    (inr h) =
    inl
    (first_once settings store (entries_of tree) 0 fault cause spelled.schema.1 first
    (first_there image text values settings tree cause spelled has_tree h))

pub verify_good : (image text values : List ℕ) (store : Device) (settings : List Setting)
    (tree : Members) (same : Bool) (lines : List ℕ) (cause : Fault)
    → SpellsSettings text settings → HasTree values tree
    → AreCompared settings store (entries_of tree) same lines
    → (HasStore image × HasSettings text × HasNoTree values × (cause ≡ ValuesText))
    ⊎ IsEntryFaultIn image text values cause
    → ⊥
verify_good image text values store settings tree same lines cause spelled has_tree told (inl h) =
    h.2 tree has_tree
verify_good image text values store settings tree same lines cause spelled has_tree told (inr h) =
    compared_good settings store (entries_of tree) 0 same lines cause spelled.schema.1 told
    (first_there image text values settings tree cause spelled has_tree h)

-- ---- what that says of applying

both_true : (one other : Bool) → true ≡ one && other → (one ≡ true) × (other ≡ true)
both_true true other h = (refl, sym h)
both_true false other h = let wrong : true ≡ false = h in cc wrong

stored_compared : (settings : List Setting) (device : Device) (entry : Entry)
    → IsStored settings device entry → IsCompared settings device entry true []
stored_compared settings device entry h = (
  h.setting.numbers,
  h.value,
  record {
    number = h.number;
    setting = h.setting;
    named = h.named;
    numbers_are = refl;
    in_range = h.in_range;
  },
  inl (h.stored, refl, refl),
)

compared_taken : (settings : List Setting) (device : Device) (entry : Entry) (first : Bool)
    (here : List ℕ)
    → first ≡ true → IsCompared settings device entry first here
    → TakesEntry settings device entry 0 device
compared_taken settings device entry first here is h = elim h.3 [
  | inl k ↦ taken_stored settings device entry h.0 h.1 h.2 k.0
  | inr k ↦ let wrong : true ≡ false = sym is ∙ k.1 in cc wrong
]

pub applies_nothing : (settings : List Setting) (device : Device) (entries : List Entry)
    (lines : List ℕ)
    → AreCompared settings device entries true lines → Applies settings entries device 0 device
applies_nothing settings device [] lines h = (refl, refl)
applies_nothing settings device (entry ∷ entries) lines h =
    let both = both_true h.0 h.1 h.6 in (
      0,
      device,
      0,
      compared_taken settings device entry h.0 h.2 both.0 h.4,
      applies_nothing settings device entries h.3
          (subst (λ (same : Bool). AreCompared settings device entries same h.3) both.1 h.5),
      refl,
    )

all_compared : (settings : List Setting) (device : Device) (entries : List Entry)
    → All (IsStored settings device) entries → AreCompared settings device entries true []
all_compared settings device [] h = (refl, refl)
all_compared settings device (entry ∷ entries) h = (
  true,
  true,
  [],
  [],
  stored_compared settings device entry (All-head (IsStored settings device) entry entries h),
  all_compared settings device entries (All-tail (IsStored settings device) entry entries h),
  refl,
  refl,
)

pub applied_verified : (settings : List Setting) → IsSchema settings → (entries : List Entry)
    → HaveRisingKeys entries
    → (old new : Device) (count : ℕ) → Applies settings entries old count new
    → AreCompared settings new entries true []
applied_verified settings schema entries rising old new count applied =
    all_compared settings new entries
    (applying_stores_values_lem settings schema entries rising old new count applied).stored
