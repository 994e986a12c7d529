-- Entries that are taken one after another, and that one cause at most stops them.
use Rattle.std.proofs.Common.{◌≡◌, ◌≢◌, ◌⊎◌, ◌∙◌, ◌+◌, ◌≤◌, ◌<◌, ℕ, ℤ, suc, List, [], ◌∷◌, ◌++◌, length, Some, inl, inr, refl, sym, ap, subst, arith, rules}
use Rattle.std.specs.Prelude.{pos}
use Rattle.toml.specs.Data.{Data, integer}
use Rattle.ee_flash.specs.Device.{Device}
use Rattle.ee_flash.specs.Size.{Size, slot_count}
use Rattle.ee_pages.specs.Meaning.{Put}
use Rattle.ee_core.specs.Changes.{IsAccepted}
use Rattle.ee_core.specs.State.{State, state_of}
use Rattle.ee_settings.specs.Calls.{IsNamed}
use Rattle.ee_settings.specs.File.{Entry}
use Rattle.ee_settings.specs.Setting.{HaveRisingNames, IsInRange, Setting}
use Rattle.ee_interface.specs.declared.script.command.Command.TheVariants.{Write}
use Rattle.ee_interface.specs.declared.fault.Fault.{Fault}
use Rattle.ee_image_store.specs.Opening.{StaysOn}
use Rattle.ee_shell.proofs.ByNameLemmas.Named.{accepted_by, size_kept, one_named}
use Rattle.ee_shell.specs.ByName.Settings.{IsWriteServed}
use Rattle.ee_shell.specs.ByName.Applying.{Applies, IsEntryRefusal, IsNewlyWritten, IsNumberRefusal, IsStored, IsWriteRefusalAt, StopsAtEntry, TakesEntry}

-- ---- what stays

pub taken_keeps : (settings : List Setting) (old new : Device) (entry : Entry) (count : ℕ)
    → StaysOn old → TakesEntry settings old entry count new → StaysOn new × (new.size ≡ old.size)
taken_keeps settings old new entry count on (inl h) = rw h.2 (on, refl)
taken_keeps settings old new entry count on (inr h) = (
  h.0.written.stays_on,
  size_kept old new (Write h.0.written.setting.numbers.address h.0.value) h.0.written.served,
)

pub applied_keeps : (settings : List Setting) (entries : List Entry) (old new : Device) (count : ℕ)
    → StaysOn old → Applies settings entries old count new → StaysOn new × (new.size ≡ old.size)
applied_keeps settings [] old new count on h = rw h.1 (on, refl)
applied_keeps settings (entry ∷ entries) old new count on h =
    let first = taken_keeps settings old h.1 entry h.0 on h.3 in
    let rest = applied_keeps settings entries h.1 new h.2 first.0 h.4 in
    (rest.0, rest.1 ∙ first.1)

pub few_taken : (settings : List Setting) (old new : Device) (entry : Entry) (count : ℕ)
    → TakesEntry settings old entry count new → count ≤ 1
few_taken settings old new entry count (inl h) = let none = h.1 in omega arith
few_taken settings old new entry count (inr h) = let one = h.1 in omega arith

-- no more writes than entries
pub few_applied : (settings : List Setting) (entries : List Entry) (old new : Device) (count : ℕ)
    → Applies settings entries old count new → count ≤ length entries
few_applied settings [] old new count h = let none = h.0 in omega arith
few_applied settings (entry ∷ entries) old new count h =
    search (rules, few_taken, (few_applied settings entries h.1 new h.2 h.4))

-- one more entry is taken
pub applied_more : (settings : List Setting) (entries : List Entry) (entry : Entry)
    (old mid new : Device) (count more : ℕ)
    → Applies settings entries old count mid → TakesEntry settings mid entry more new
    → Applies settings (entries ++ entry ∷ []) old (count + more) new
applied_more settings [] entry old mid new count more h takes = search rules
applied_more settings (e ∷ entries) entry old mid new count more h takes =
    search (rules, (applied_more settings entries entry h.1 mid new h.2 more h.4 takes))

-- ---- devices of one size and state

pub record IsAlike (one other : Device) : Type 0 where
  pub size : one.size ≡ other.size
  pub state : state_of one ≡ state_of other

alike_back : (one other : Device) → IsAlike one other → IsAlike other one
alike_back one other same = record { size = sym same.size; state = sym same.state }

not_both : (fill more slots most : ℕ) → fill ≡ more → slots ≡ most → fill < slots → more ≡ most → ⊥
not_both fill more slots most e f less all = omega arith

served_alike : (one other first second : Device) (address value : ℕ) → IsAlike one other
    → IsWriteServed one address value first → IsWriteServed other address value second
    → IsAlike first second
served_alike one other first second address value same (inl h) (inl k) = search rules
served_alike one other first second address value same (inr h) (inr k) = search rules
served_alike one other first second address value same (inl h) (inr k) =
    absurd
    (not_both (state_of one).fill (state_of other).fill (slot_count one.size)
    (slot_count other.size) (ap (λ (s : State). s.fill) same.state)
    (ap slot_count same.size) h.0.step.1 k.0.step.1)
served_alike one other first second address value same (inr h) (inl k) =
    absurd
    (not_both (state_of other).fill (state_of one).fill (slot_count other.size)
    (slot_count one.size) (ap (λ (s : State). s.fill) (sym same.state))
    (ap slot_count (sym same.size)) k.0.step.1 h.0.step.1)

pub one_number : (tree : Data) (one other : ℤ) → tree ≡ integer one → tree ≡ integer other → one ≡ other
one_number tree one other h k = cc

pub one_value : (tree : Data) (one other : ℕ) → tree ≡ integer (pos one) → tree ≡ integer (pos other)
    → one ≡ other
one_value tree one other h k = cc

-- what is stored already is not written
stored_or_new : (settings : List Setting) (one other new : Device) (entry : Entry)
    → HaveRisingNames settings → IsAlike one other → IsStored settings one entry
    → IsNewlyWritten settings other entry new → ⊥
stored_or_new settings one other new entry rising same h k =
    k.another
    (ap (λ (s : State). s.map k.setting.numbers.address) (sym same.state)
    ∙ ap (λ (s : Setting). (state_of one).map s.numbers.address)
    (one_named settings entry.0 k.setting h.setting rising k.named h.named)
    ∙ h.stored
    ∙ ap (λ v. Some v) (one_value entry.1 h.value k.value h.number k.number))

takes_alike : (settings : List Setting) (one other first second : Device) (entry : Entry)
    (count more : ℕ)
    → HaveRisingNames settings → IsAlike one other → TakesEntry settings one entry count first
    → TakesEntry settings other entry more second → IsAlike first second
takes_alike settings one other first second entry count more rising same (inl h) (inl k) =
    rw (h.2, k.2) same
takes_alike settings one other first second entry count more rising same (inl h) (inr k) =
    absurd (stored_or_new settings one other second entry rising same h.0 k.0)
takes_alike settings one other first second entry count more rising same (inr h) (inl k) =
    absurd (stored_or_new settings other one first entry rising (alike_back one other same) k.0 h.0)
takes_alike settings one other first second entry count more rising same (inr h) (inr k) =
    let setting =
    one_named settings entry.0 k.0.written.setting h.0.written.setting rising k.0.written.named
    h.0.written.named in
    let value = one_value entry.1 k.0.value h.0.value k.0.number h.0.number in
    served_alike one other first second h.0.written.setting.numbers.address h.0.value same
    h.0.written.served
    (subst (λ (s : Setting). IsWriteServed other s.numbers.address h.0.value second) setting
    (subst (λ v. IsWriteServed other k.0.written.setting.numbers.address v second) value
    k.0.written.served))

-- ---- what is refused

by_number : (setting : Setting) (size : Size) (state : State) (number : ℕ) (fault : Fault)
    (value : ℕ)
    → IsInRange setting.numbers value → IsNumberRefusal setting size state number (pos value) fault
    → (state.map setting.numbers.address ≢ Some value)
    × IsWriteRefusalAt size state number setting.numbers.address fault
by_number setting size state number fault value within (inl h) = absurd (h.0 value within refl)
by_number setting size state number fault value within (inr h) = search rules

-- an entry with a number in the range of its setting is refused by the write alone
by_write : (settings : List Setting) (size : Size) (state : State) (number : ℕ) (entry : Entry)
    (fault : Fault) (setting : Setting) (value : ℕ)
    → HaveRisingNames settings → IsNamed settings entry.0 setting → entry.1 ≡ integer (pos value)
    → IsInRange setting.numbers value → IsEntryRefusal settings size state number entry fault
    → (state.map setting.numbers.address ≢ Some value)
    × IsWriteRefusalAt size state number setting.numbers.address fault
by_write settings size state number entry fault setting value rising named is within (inl h) =
    absurd (h.0 (pos value) is)
by_write settings size state number entry fault setting value rising named is within (inr (inl h))
    =
    absurd (h.2 setting named)
by_write settings size state number entry fault setting value rising named is within (inr (inr h)) =
    let refused : IsNumberRefusal setting size state number (pos value) fault =
    subst (λ (s : Setting). IsNumberRefusal s size state number (pos value) fault)
    (one_named settings entry.0 h.2 setting rising h.3 named)
    (subst (λ n. IsNumberRefusal h.2 size state number n fault)
    (one_number entry.1 h.0 (pos value) h.1 is) h.4) in
    by_number setting size state number fault value within refused

refused_there : (settings : List Setting) (one other : Device) (number : ℕ) (entry : Entry)
    (fault : Fault)
    → IsAlike one other → IsEntryRefusal settings one.size (state_of one) number entry fault
    → IsEntryRefusal settings other.size (state_of other) number entry fault
refused_there settings one other number entry fault same refused =
    subst (λ (s : State). IsEntryRefusal settings other.size s number entry fault) same.state
    (subst (λ (s : Size). IsEntryRefusal settings s (state_of one) number entry fault) same.size
    refused)

accepted : (size : Size) (state : State) (number address value : ℕ) (fault : Fault)
    → IsAccepted (slot_count size) state (Put address value ∷ [])
    → IsWriteRefusalAt size state number address fault → ⊥
accepted size state number address value fault takes (inl h) = takes.has_place h.0
accepted size state number address value fault takes (inr h) = takes.not_spent h.1

-- what is refused is not taken
refused_or_taken : (settings : List Setting) (old new : Device) (number : ℕ) (entry : Entry)
    (count : ℕ) (fault : Fault)
    → HaveRisingNames settings → IsEntryRefusal settings old.size (state_of old) number entry fault
    → TakesEntry settings old entry count new → ⊥
refused_or_taken settings old new number entry count fault rising refused (inl h) =
    (by_write settings old.size (state_of old) number entry fault h.0.setting h.0.value rising
    h.0.named h.0.number h.0.in_range refused).0 h.0.stored
refused_or_taken settings old new number entry count fault rising refused (inr h) =
    let write = h.0.written in
    accepted old.size (state_of old) number write.setting.numbers.address h.0.value fault
    (accepted_by old new write.setting.numbers.address h.0.value write.served)
    (by_write settings old.size (state_of old) number entry fault write.setting h.0.value rising
    write.named h.0.number write.in_range refused).1

one_write : (size : Size) (state : State) (number address : ℕ) (fault cause : Fault)
    → IsWriteRefusalAt size state number address fault
    → IsWriteRefusalAt size state number address cause → fault ≡ cause
one_write size state number address fault cause h1 h2 = search rules

one_number_refusal : (setting : Setting) (size : Size) (state : State) (entry : ℕ) (number : ℤ)
    (fault cause : Fault)
    → IsNumberRefusal setting size state entry number fault
    → IsNumberRefusal setting size state entry number cause → fault ≡ cause
one_number_refusal setting size state entry number fault cause h1 h2 = search (rules, one_write)

pub one_refusal : (settings : List Setting) (size : Size) (state : State) (number : ℕ) (entry : Entry)
    (fault cause : Fault)
    → HaveRisingNames settings → IsEntryRefusal settings size state number entry fault
    → IsEntryRefusal settings size state number entry cause → fault ≡ cause
one_refusal settings size state number entry fault cause rising (inl h) (inl k) = h.1 ∙ sym k.1
one_refusal settings size state number entry fault cause rising (inl h) (inr (inl k)) =
    absurd (h.0 k.0 k.1)
one_refusal settings size state number entry fault cause rising (inl h) (inr (inr k)) =
    absurd (h.0 k.0 k.1)
one_refusal settings size state number entry fault cause rising (inr (inl h)) (inl k) =
    absurd (k.0 h.0 h.1)
one_refusal settings size state number entry fault cause rising (inr (inl h)) (inr (inl k)) =
    h.3 ∙ sym k.3
one_refusal settings size state number entry fault cause rising (inr (inl h)) (inr (inr k)) =
    absurd (h.2 k.2 k.3)
one_refusal settings size state number entry fault cause rising (inr (inr h)) (inl k) =
    absurd (k.0 h.0 h.1)
one_refusal settings size state number entry fault cause rising (inr (inr h)) (inr (inl k)) =
    absurd (k.2 h.2 h.3)
one_refusal settings size state number entry fault cause rising (inr (inr h)) (inr (inr k)) =
    one_number_refusal h.2 size state number h.0 fault cause h.4
    (subst (λ (s : Setting). IsNumberRefusal s size state number h.0 cause)
    (one_named settings entry.0 k.2 h.2 rising k.3 h.3)
    (subst (λ n. IsNumberRefusal k.2 size state number n cause) (one_number entry.1 k.0 h.0 k.1 h.1)
    k.4))

-- ---- where they stop

-- the same by recursion on the entries, of which so many were taken before
abbrev pub Stops : List Setting → List Entry → ℕ → Device → Fault → Type 0
Stops settings [] taken old fault = ⊥
Stops settings (entry ∷ entries) taken old fault =
    IsEntryRefusal settings old.size (state_of old) (taken + 1) entry fault
    ⊎ ((count : ℕ) × (between : Device) × TakesEntry settings old entry count between
    × Stops settings entries (taken + 1) between fault)

stops_behind : (settings : List Setting) (before after : List Entry) (entry : Entry)
    (taken number : ℕ) (old mid : Device) (count : ℕ) (fault : Fault)
    → number ≡ taken + length before + 1 → Applies settings before old count mid
    → IsEntryRefusal settings mid.size (state_of mid) number entry fault
    → Stops settings (before ++ entry ∷ after) taken old fault
stops_behind settings [] after entry taken number old mid count fault at h refused =
    let first : number ≡ taken + 0 + 1 = at in
    let here : number ≡ taken + 1 = omega arith in
    inl (subst (λ n. IsEntryRefusal settings old.size (state_of old) n entry fault) here
    (subst (λ (d : Device). IsEntryRefusal settings d.size (state_of d) number entry fault) h.1
    refused))
stops_behind settings (e ∷ before) after entry taken number old mid count fault at h refused =
    let later : number ≡ taken + suc (length before) + 1 = at in
    let further : number ≡ (taken + 1) + length before + 1 = omega arith in
    inr (
      h.0,
      h.1,
      h.3,
      stops_behind settings before after entry (taken + 1) number h.1 mid h.2 fault further
          h.4 refused,
    )

stops_from_first : (settings : List Setting) (entries : List Entry) (old : Device) (fault : Fault)
    → StopsAtEntry settings entries old fault → Stops settings entries 0 old fault
stops_from_first settings entries old fault h =
    let at : length h.before + 1 ≡ 0 + length h.before + 1 = omega arith in
    subst (λ es. Stops settings es 0 old fault) (sym h.split)
    (stops_behind settings h.before h.after h.entry 0 (length h.before + 1) old h.mid h.count
    fault at h.applied h.refused)

stop_once : (settings : List Setting) (entries : List Entry) (taken : ℕ) (one other : Device)
    (fault cause : Fault)
    → HaveRisingNames settings → IsAlike one other → Stops settings entries taken one fault
    → Stops settings entries taken other cause → fault ≡ cause
stop_once settings [] taken one other fault cause rising same h k = absurd h
stop_once settings (entry ∷ entries) taken one other fault cause rising same (inl h) (inl k) =
    one_refusal settings other.size (state_of other) (taken + 1) entry fault cause rising
    (refused_there settings one other (taken + 1) entry fault same h) k
stop_once settings (entry ∷ entries) taken one other fault cause rising same (inl h) (inr k) =
    absurd
    (refused_or_taken settings other k.1 (taken + 1) entry k.0 fault rising
    (refused_there settings one other (taken + 1) entry fault same h) k.2)
stop_once settings (entry ∷ entries) taken one other fault cause rising same (inr h) (inl k) =
    absurd
    (refused_or_taken settings one h.1 (taken + 1) entry h.0 cause rising
    (refused_there settings other one (taken + 1) entry cause (alike_back one other same) k)
    h.2)
stop_once settings (entry ∷ entries) taken one other fault cause rising same (inr h) (inr k) =
    stop_once settings entries (taken + 1) h.1 k.1 fault cause rising
    (takes_alike settings one other h.1 k.1 entry h.0 k.0 rising same h.2 k.2) h.3 k.3

pub one_stop : (settings : List Setting) (entries : List Entry) (one other : Device)
    (fault cause : Fault)
    → HaveRisingNames settings → IsAlike one other → StopsAtEntry settings entries one fault
    → StopsAtEntry settings entries other cause → fault ≡ cause
one_stop settings entries one other fault cause rising same h k =
    stop_once settings entries 0 one other fault cause rising same
    (stops_from_first settings entries one fault h)
    (stops_from_first settings entries other cause k)

never_stops : (settings : List Setting) (entries : List Entry) (taken : ℕ) (one other new : Device)
    (count : ℕ) (fault : Fault)
    → HaveRisingNames settings → IsAlike one other → Applies settings entries one count new
    → Stops settings entries taken other fault → ⊥
never_stops settings [] taken one other new count fault rising same h k = k
never_stops settings (entry ∷ entries) taken one other new count fault rising same h (inl k) =
    refused_or_taken settings one h.1 (taken + 1) entry h.0 fault rising
    (refused_there settings other one (taken + 1) entry fault (alike_back one other same) k) h.3
never_stops settings (entry ∷ entries) taken one other new count fault rising same h (inr k) =
    never_stops settings entries (taken + 1) h.1 k.1 new h.2 fault rising
    (takes_alike settings one other h.1 k.1 entry h.0 k.0 rising same h.3 k.2) h.4 k.3

-- what was applied to the end is stopped nowhere
pub applied_good : (settings : List Setting) (entries : List Entry) (one other new : Device)
    (count : ℕ) (fault : Fault)
    → HaveRisingNames settings → IsAlike one other → Applies settings entries one count new
    → StopsAtEntry settings entries other fault → ⊥
applied_good settings entries one other new count fault rising same h k =
    never_stops settings entries 0 one other new count fault rising same h
    (stops_from_first settings entries other fault k)
