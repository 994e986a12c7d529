-- What is read and set by name, and that one cause at most applies for which it is not.
use Rattle.std.proofs.Common.{◌≡◌, ◌≢◌, ◌⊎◌, ◌∙◌, ℕ, List, inl, inr, refl, sym, ap, subst, Ok, Err, arith, rules, [], ◌∷◌}
use Rattle.toml.specs.Data.{Members}
use Rattle.ee_flash.specs.Device.{Device}
use Rattle.ee_flash.specs.Size.{Size, slot_count}
use Rattle.ee_pages.specs.Meaning.{Put}
use Rattle.ee_core.specs.Changes.{IsAccepted}
use Rattle.ee_core.specs.State.{State, Wears, pending_pages, state_of}
use Rattle.ee_core.specs.declared.variables.Written.{Written}
use Rattle.ee_core.specs.declared.variables.Written.TheVariants as written
use Rattle.ee_settings.proofs.Public.{one_fault, names_apart, never_refused, schema_once}
use Rattle.ee_settings.specs.Calls.{IsNamed, IsUnknown, Sets}
use Rattle.ee_settings.specs.File.{GivesSchema, HaveRisingKeys, entries_of}
use Rattle.ee_settings.specs.Setting.{HaveRisingNames, IsInRange, RecordSetting, Schema, Setting}
use Rattle.ee_settings.specs.declared.fault.SchemaFault.{SchemaFault}
use Rattle.ee_settings.specs.declared.fault.SchemaFault.TheVariants as schema
use Rattle.ee_interface.specs.declared.script.answer.Answer.{Answer}
use Rattle.ee_interface.specs.declared.script.answer.Answer.TheVariants.{Appended, Moved}
use Rattle.ee_interface.specs.declared.script.command.Command.{Command}
use Rattle.ee_interface.specs.declared.script.command.Command.TheVariants.{Write}
use Rattle.ee_shell.specs.ByName.Applying.{HasSettings}
use Rattle.ee_shell.specs.ByName.Records.{IsNoRecord, IsRecordNamed}
use Rattle.ee_shell.specs.ByName.Settings.{fault_of_schema, HasTree, IsGetFault, IsGot, IsReadingLine, IsUnknownIn, IsUnknownTo, IsSettingRefused, IsRecordIn, IsRefusedIn, IsSet, IsSettingsFault, IsValueRefusal, IsWriteRefusal, IsCommandServed, IsWriteServed, IsWritten, LeavesSet, SpellsSchema, SpellsSettings}
use Rattle.ee_interface.specs.declared.fault.Fault.{Fault}
use Rattle.ee_interface.specs.declared.fault.Fault.TheVariants.{Memory, RecordName, UnknownName}
use Rattle.ee_image_store.proofs.Public.{both, by_append, by_move, no_memory_to_open, pages_since, same_at_rest, same_state}
use Rattle.ee_image_store.specs.Erases.{ErasesRise, erases_left_by}
use Rattle.ee_image_store.specs.Machine.{MachineStep}
use Rattle.ee_image_store.specs.Opening.{HasStore, IsOpened, IsStoreLeft, IsStoreText, StaysOn}
use Rattle.ee_image_store.specs.Steps.{Steps}

-- ---- the text of the settings

pub one_tree : (text : List ℕ) (one other : Members) → HasTree text one → HasTree text other
    → one ≡ other
one_tree text one other h k = cc (h.reads, k.reads)

schema_memory_or : (why : SchemaFault) → (why ≡ schema.Memory) ⊎ (why ≢ schema.Memory)
schema_memory_or (schema.BadName n) = inr (λ e. cc e)
schema_memory_or (schema.BadField n) = inr (λ e. cc e)
schema_memory_or (schema.BadRange n) = inr (λ e. cc e)
schema_memory_or (schema.SameAddress n) = inr (λ e. cc e)
schema_memory_or schema.Memory = inl refl

-- the fault of a tree is the one that was told
pub schema_named : (text : List ℕ) (tree : Members) (why : SchemaFault) (fault cause : Fault)
    → HasTree text tree → HaveRisingKeys (entries_of tree) → GivesSchema tree (Err why)
    → fault ≡ fault_of_schema why → cause ≢ Memory → IsSettingsFault text cause
    → (fault ≡ cause) ⊎ (fault ≡ Memory)
schema_named text tree why fault cause has rising gives told some (inl h) = absurd (h.1 tree has)
schema_named text tree why fault cause has rising gives told some (inr (inr h)) = absurd (some h)
schema_named text tree why fault cause has rising gives told some (inr (inl h)) =
    elim (schema_memory_or why) [
      | inl none ↦ inr (told ∙ ap fault_of_schema none)
      | inr named ↦
          let there : GivesSchema tree (Err h.cause) =
          subst (λ (t : Members). GivesSchema t (Err h.cause))
          (one_tree text h.tree tree h.has_tree has) h.applies in
          let same : why ≡ h.cause =
          one_fault tree rising why h.cause named (λ e. some (h.fault_is ∙ ap fault_of_schema e))
          gives there in
          inl (told ∙ ap fault_of_schema same ∙ sym h.fault_is)
    ]

-- a text that spells settings has no fault
pub schema_good : (text : List ℕ) (tree : Members) (whole : Schema) (cause : Fault)
    → HasTree text tree → GivesSchema tree (Ok whole) → cause ≢ Memory
    → IsSettingsFault text cause → ⊥
schema_good text tree whole cause has gives some (inl h) = h.1 tree has
schema_good text tree whole cause has gives some (inr (inr h)) = some h
schema_good text tree whole cause has gives some (inr (inl h)) =
    never_refused tree whole h.cause (λ e. some (h.fault_is ∙ ap fault_of_schema e)) gives
    (subst (λ (t : Members). GivesSchema t (Err h.cause))
    (one_tree text h.tree tree h.has_tree has) h.applies)

pub settings_good : (text : List ℕ) (settings : List Setting) (cause : Fault)
    → SpellsSettings text settings → cause ≢ Memory → IsSettingsFault text cause → ⊥
settings_good text settings cause spelled some h =
    schema_good text spelled.tree (record { settings = settings; records = spelled.records }) cause
    spelled.has_tree spelled.schema some h

pub spells_settings : (text : List ℕ) (whole : Schema) → SpellsSchema text whole
    → SpellsSettings text whole.settings
spells_settings text whole h = record {
  tree = h.tree;
  has_tree = h.has_tree;
  records = whole.records;
  schema = h.schema;
}

there_too : (text : List ℕ) (one tree : Members) (whole : Schema) → HasTree text tree
    → HasTree text one → GivesSchema one (Ok whole) → GivesSchema tree (Ok whole)
there_too text one tree whole has has_one gives =
    subst (λ (t : Members). GivesSchema t (Ok whole)) (one_tree text one tree has_one has) gives

-- a text is one schema at most
trees_once : (text : List ℕ) (tree one : Members) (whole other : Schema) → HasTree text tree
    → HasTree text one → GivesSchema tree (Ok whole) → GivesSchema one (Ok other) → whole ≡ other
trees_once text tree one whole other has has_one gives again =
    schema_once (entries_of tree) whole other gives.0
    (there_too text one tree other has has_one again).0

pub whole_once : (text : List ℕ) (whole other : Schema) → SpellsSchema text whole
    → SpellsSchema text other → whole ≡ other
whole_once text whole other spelled again =
    trees_once text spelled.tree again.tree whole other spelled.has_tree again.has_tree
    spelled.schema again.schema

pub spelled_once : (text : List ℕ) (settings others : List Setting) → SpellsSettings text settings
    → SpellsSettings text others → settings ≡ others
spelled_once text settings others spelled again =
    ap (λ (whole : Schema). whole.settings)
    (trees_once text spelled.tree again.tree
    (record { settings = settings; records = spelled.records })
    (record { settings = others; records = again.records }) spelled.has_tree again.has_tree
    spelled.schema again.schema)

-- only want of memory refuses a text that spells settings
pub schema_only : (text : List ℕ) (tree : Members) (why : SchemaFault) (fault : Fault)
    (others : List Setting)
    → HasTree text tree → GivesSchema tree (Err why) → fault ≡ fault_of_schema why
    → SpellsSettings text others → fault ≡ Memory
schema_only text tree why fault others has gives told spelled =
    elim (schema_memory_or why) [
      | inl none ↦ told ∙ ap fault_of_schema none
      | inr named ↦ absurd
          (never_refused tree (record { settings = others; records = spelled.records }) why named
          (there_too text spelled.tree tree
          (record { settings = others; records = spelled.records }) has spelled.has_tree
          spelled.schema) gives)
    ]

-- ---- reading

-- a name that is read is no unknown one
pub never_unknown : (text name line : List ℕ) (whole : Schema) (state : State)
    → SpellsSchema text whole → IsReadingLine whole state name line → IsUnknownIn text name → ⊥
never_unknown text name line whole state spelled (inl read) h =
    let unknown : IsUnknownTo whole name =
    subst (λ (w : Schema). IsUnknownTo w name) (whole_once text h.whole whole h.spelled spelled)
    h.unknown in
    unknown.0 read.1.0 read.1.1
never_unknown text name line whole state spelled (inr read) h =
    let unknown : IsUnknownTo whole name =
    subst (λ (w : Schema). IsUnknownTo w name) (whole_once text h.whole whole h.spelled spelled)
    h.unknown in
    unknown.1 read.0 read.1

-- an opened store has the map that its image says
pub is_got : (image text name line : List ℕ) (store : Device) (whole : Schema)
    → IsOpened image store → SpellsSchema text whole
    → IsReadingLine whole (state_of store) name line → IsGot image text name line
is_got image text name line store whole opened spelled read = record {
  device = opened.device;
  old = opened.old;
  whole = whole;
  spelled = spelled;
  read = subst (λ (state : State). IsReadingLine whole state name line) opened.state_is read;
}

-- why nothing is read: the name is unknown, or memory ran out
pub is_get_fault : (image text name : List ℕ) (store : Device) (whole : Schema) (fault : Fault)
    → IsOpened image store → SpellsSchema text whole
    → (IsUnknownTo whole name × (fault ≡ UnknownName)) ⊎ (fault ≡ Memory)
    → IsGetFault image text name fault
is_get_fault image text name store whole fault opened spelled (inl h) =
    inr
    (inr (
      (opened.device, opened.old),
      record { whole = whole; spelled = spelled; unknown = h.0 },
      h.1,
    ))
is_get_fault image text name store whole fault opened spelled (inr none) =
    rw none (inl (no_memory_to_open image))

-- ---- setting

pub is_written : (settings : List Setting) (old new : Device) (name : List ℕ) (value : ℕ)
    (answer : Written)
    → StaysOn old → Sets settings old name value (Ok answer) new
    → IsWritten settings old name value new
is_written settings old new name value written.Appended on set = record {
  setting = set.0;
  named = set.1;
  in_range = set.2;
  served = inl (
    record {
      step = (set.3.proceeds.accepted, set.3.free, set.3.state_is);
      same_size = set.3.goes_on.same_size;
      erases = by_append old (Put set.0.numbers.address value) new set.3;
    },
    set.3.no_wear,
  );
  stays_on = record {
    on = set.3.goes_on.same_power ∙ on.on;
    never_cut = set.3.goes_on.same_cuts_left ∙ on.never_cut;
  };
  answer = written.Appended;
  written = set.3;
}
is_written settings old new name value written.Moved on set = record {
  setting = set.0;
  named = set.1;
  in_range = set.2;
  served = inr (
    record {
      step = (set.3.proceeds.accepted, set.3.needed, set.3.state_is);
      same_size = set.3.goes_on.same_size;
      erases = by_move old (Put set.0.numbers.address value) new set.3;
    },
    set.3.wear,
  );
  stays_on = record {
    on = set.3.goes_on.same_power ∙ on.on;
    never_cut = set.3.goes_on.same_cuts_left ∙ on.never_cut;
  };
  answer = written.Moved;
  written = set.3;
}

-- what was served by an opened store was served by what its text spells
from_text : (image : List ℕ) (store new : Device) (command : Command) (answer : Answer)
    (opened : IsOpened image store)
    → Steps store command answer new → Steps opened.device command answer new
from_text image store new command answer opened serves =
    record {
      step = subst
          (λ (size : Size). MachineStep size (state_of opened.device) command answer (state_of new))
          opened.same_size
          (subst (λ (state : State). MachineStep store.size state command answer (state_of new))
          opened.state_is serves.step);
      same_size = serves.same_size ∙ opened.same_size;
      erases =
          subst (λ (size : Size). ErasesRise (erases_left_by size answer) opened.device new)
          opened.same_size
          (both opened.device store new 0 (erases_left_by store.size answer)
          (erases_left_by store.size answer) opened.erases serves.erases (omega arith));
    }

pub served_from_text : (image : List ℕ) (store new : Device) (command : Command)
    (opened : IsOpened image store)
    → IsCommandServed store command new → IsCommandServed opened.device command new
served_from_text image store new command opened (inl h) =
    inl (from_text image store new command Appended opened h.0, h.1 ∙ opened.no_wear)
served_from_text image store new command opened (inr h) =
    inr (
      from_text image store new command Moved opened h.0,
      subst (λ (pages : List ℕ). Wears pages opened.device new) opened.same_pending
          (pages_since opened.device store new (pending_pages store) opened.no_wear h.1),
    )

pub size_kept : (old new : Device) (command : Command) → IsCommandServed old command new
    → new.size ≡ old.size
size_kept old new command (inl h) = h.0.same_size
size_kept old new command (inr h) = h.0.same_size

pub is_set : (image text name new_image line : List ℕ) (value : ℕ) (store : Device)
    (settings : List Setting)
    → IsOpened image store → SpellsSettings text settings
    → LeavesSet settings store name value new_image line
    → IsSet image text name value new_image line
is_set image text name new_image line value store settings opened spelled done =
    let served =
    served_from_text image store done.last (Write done.written.setting.numbers.address value) opened
    done.written.served in
    record {
      device = opened.device;
      store = store;
      last = done.last;
      old = opened.old;
      opens = opened.opens;
      settings = settings;
      spelled = spelled;
      written = done.written;
      served = served;
      left = subst (λ (size : Size). IsStoreLeft size new_image done.last)
          (size_kept opened.device done.last (Write done.written.setting.numbers.address value)
          served)
          done.left;
      line_is = done.line_is;
    }

-- what holds of the opened store's size and state holds of those that its text spells
pub of_text : (image : List ℕ) (store : Device) (P : Size → State → Type 0)
    (opened : IsOpened image store)
    → P store.size (state_of store) → P opened.device.size (state_of opened.device)
of_text image store P opened h =
    subst (λ (size : Size). P size (state_of opened.device)) opened.same_size
    (subst (λ (state : State). P store.size state) opened.state_is h)

-- and the other way round
pub at_opened : (image : List ℕ) (device store : Device) (P : Size → State → Type 0)
    → IsStoreText image device → IsOpened image store → P device.size (state_of device)
    → P store.size (state_of store)
at_opened image device store P old opened h =
    let rest = same_at_rest image device opened.device old.spelled opened.old.spelled in
    subst (λ (size : Size). P size (state_of store))
    (ap (λ (d : Device). d.size) rest ∙ sym opened.same_size)
    (subst (λ (state : State). P device.size state)
    (same_state device opened.device rest ∙ sym opened.state_is) h)

pub is_refused_in : (image text name : List ℕ) (value : ℕ) (store : Device)
    (settings : List Setting) (fault : Fault)
    → IsOpened image store → SpellsSettings text settings
    → IsSettingRefused settings store.size (state_of store) name value fault
    → IsRefusedIn image text name value fault
is_refused_in image text name value store settings fault opened spelled refused = record {
  device = opened.device;
  old = opened.old;
  settings = settings;
  spelled = spelled;
  refused = of_text image store
      (λ (size : Size) (state : State). IsSettingRefused settings size state name value fault)
      opened
      refused;
}

-- ---- the causes for which nothing is set

one_write : (size : Size) (state : State) (address : ℕ) (fault cause : Fault)
    → IsWriteRefusal size state address fault → IsWriteRefusal size state address cause
    → fault ≡ cause
one_write size state address fault cause h1 h2 = search rules

one_value : (setting : Setting) (size : Size) (state : State) (value : ℕ) (fault cause : Fault)
    → IsValueRefusal setting size state value fault → IsValueRefusal setting size state value cause
    → fault ≡ cause
one_value setting size state value fault cause h1 h2 = search (rules, one_write)

pub one_named : (settings : List Setting) (name : List ℕ) (one other : Setting)
    → HaveRisingNames settings → IsNamed settings name one → IsNamed settings name other
    → one ≡ other
one_named settings name one other rising h k =
    names_apart settings rising one other h.0 k.0 (h.1 ∙ sym k.1)

-- why a command refuses a name: no setting has it; or for a cause of its setting; or memory ran out
abbrev pub IsNameRefused : List Setting → List ℕ → (Setting → Fault → Type 0) → Fault → Type 0
IsNameRefused settings name Why fault =
    (IsUnknown settings name × (fault ≡ UnknownName))
    ⊎ ((setting : Setting) × IsNamed settings name setting × Why setting fault) ⊎ (fault ≡ Memory)

pub one_refusal : (settings : List Setting) (name : List ℕ) (Why : Setting → Fault → Type 0)
    (fault cause : Fault)
    → HaveRisingNames settings
    → ((setting : Setting) → Why setting fault → Why setting cause → fault ≡ cause)
    → cause ≢ Memory → IsNameRefused settings name Why fault → IsNameRefused settings name Why cause
    → (fault ≡ cause) ⊎ (fault ≡ Memory)
one_refusal settings name Why fault cause rising once some (inr (inr h)) k = inr h
one_refusal settings name Why fault cause rising once some (inl h) (inr (inr k)) = absurd (some k)
one_refusal settings name Why fault cause rising once some (inl h) (inl k) = inl (h.1 ∙ sym k.1)
one_refusal settings name Why fault cause rising once some (inl h) (inr (inl k)) =
    absurd (h.0 k.0 k.1)
one_refusal settings name Why fault cause rising once some (inr (inl h)) (inr (inr k)) =
    absurd (some k)
one_refusal settings name Why fault cause rising once some (inr (inl h)) (inl k) =
    absurd (k.0 h.0 h.1)
one_refusal settings name Why fault cause rising once some (inr (inl h)) (inr (inl k)) =
    inl
    (once h.0 h.2
    (subst (λ (s : Setting). Why s cause) (one_named settings name k.0 h.0 rising k.1 h.1) k.2))

-- a name whose setting has no such cause is not refused
pub name_good : (settings : List Setting) (name : List ℕ) (Why : Setting → Fault → Type 0)
    (setting : Setting) (cause : Fault)
    → HaveRisingNames settings → IsNamed settings name setting → (Why setting cause → ⊥)
    → cause ≢ Memory → IsNameRefused settings name Why cause → ⊥
name_good settings name Why setting cause rising named good some (inl h) = h.0 setting named
name_good settings name Why setting cause rising named good some (inr (inr h)) = some h
name_good settings name Why setting cause rising named good some (inr (inl h)) =
    good
    (subst (λ (s : Setting). Why s cause) (one_named settings name h.0 setting rising h.1 named)
    h.2)

accepted_write : (size : Size) (state : State) (address value : ℕ) (cause : Fault)
    → IsAccepted (slot_count size) state (Put address value ∷ [])
    → IsWriteRefusal size state address cause → ⊥
accepted_write size state address value cause accepted (inl h) = accepted.has_place h.0
accepted_write size state address value cause accepted (inr h) = accepted.not_spent h.1

accepted_value : (setting : Setting) (size : Size) (state : State) (value : ℕ) (cause : Fault)
    → IsInRange setting.numbers value
    → IsAccepted (slot_count size) state (Put setting.numbers.address value ∷ [])
    → IsValueRefusal setting size state value cause → ⊥
accepted_value setting size state value cause within accepted (inl h) = h.0 within
accepted_value setting size state value cause within accepted (inr h) =
    accepted_write size state setting.numbers.address value cause accepted h.1

pub accepted_by : (old new : Device) (address value : ℕ) → IsWriteServed old address value new
    → IsAccepted (slot_count old.size) (state_of old) (Put address value ∷ [])
accepted_by old new address value (inl h) = h.0.step.0
accepted_by old new address value (inr h) = h.0.step.0

written_good : (settings : List Setting) (old new : Device) (name : List ℕ) (value : ℕ)
    (cause : Fault)
    → HaveRisingNames settings → cause ≢ Memory → IsWritten settings old name value new
    → IsSettingRefused settings old.size (state_of old) name value cause → ⊥
written_good settings old new name value cause rising some done h =
    name_good settings name
    (λ (s : Setting) (fault : Fault). IsValueRefusal s old.size (state_of old) value fault)
    done.setting cause rising done.named
    (accepted_value done.setting old.size (state_of old) value cause done.in_range
    (accepted_by old new done.setting.numbers.address value done.served)) some h

-- what refuses a value in the image refuses it in its store
refused_there : (image text name : List ℕ) (value : ℕ) (store : Device) (settings : List Setting)
    (cause : Fault)
    → IsOpened image store → SpellsSettings text settings → IsRefusedIn image text name value cause
    → IsSettingRefused settings store.size (state_of store) name value cause
refused_there image text name value store settings cause opened spelled h =
    subst (λ (ss : List Setting). IsSettingRefused ss store.size (state_of store) name value cause)
    (spelled_once text h.settings settings h.spelled spelled)
    (at_opened image h.device store
    (λ (size : Size) (state : State). IsSettingRefused h.settings size state name value cause) h.old
    opened h.refused)

pub refused_once : (image text name : List ℕ) (value : ℕ) (store : Device) (settings : List Setting)
    (fault cause : Fault)
    → IsOpened image store → SpellsSettings text settings
    → IsSettingRefused settings store.size (state_of store) name value fault → cause ≢ Memory
    → IsRefusedIn image text name value cause → (fault ≡ cause) ⊎ (fault ≡ Memory)
refused_once image text name value store settings fault cause opened spelled refused some h =
    one_refusal settings name
    (λ (s : Setting) (one : Fault). IsValueRefusal s store.size (state_of store) value one) fault
    cause spelled.schema.1
    (λ s one other. one_value s store.size (state_of store) value fault cause one other) some
    refused (refused_there image text name value store settings cause opened spelled h)

pub set_good : (image text name : List ℕ) (value : ℕ) (store new : Device) (settings : List Setting)
    (cause : Fault)
    → IsOpened image store → SpellsSettings text settings → IsWritten settings store name value new
    → cause ≢ Memory → IsRefusedIn image text name value cause → ⊥
set_good image text name value store new settings cause opened spelled done some h =
    written_good settings store new name value cause spelled.schema.1 some done
    (refused_there image text name value store settings cause opened spelled h)

-- ---- a record's name

pub no_record_in : (text name : List ℕ) (whole : Schema) (records : List RecordSetting)
    → SpellsSchema text whole → records ≡ whole.records → IsNoRecord records name
    → IsRecordIn text name → ⊥
no_record_in text name whole records spelled are none h =
    none h.one
    (subst (λ (rs : List RecordSetting). IsRecordNamed rs name h.one)
    (ap (λ (w : Schema). w.records) (whole_once text h.whole whole h.spelled spelled) ∙ sym are)
    h.named)

-- where a record has the name, that is the cause
pub record_first : {Other : Type 0} (image text name : List ℕ) (cause : Fault)
    → IsRecordIn text name
    → (HasStore image × IsRecordIn text name × (cause ≡ RecordName))
    ⊎ (¬ IsRecordIn text name × Other) → (RecordName ≡ cause) ⊎ (RecordName ≡ Memory)
record_first image text name cause here (inl h) = inl (sym h.2)
record_first image text name cause here (inr h) = absurd (h.0 here)

-- where none has, the others are left
pub others_left : {Other Answer : Type 0} (image text name : List ℕ) (cause : Fault)
    → (IsRecordIn text name → ⊥)
    → (HasStore image × IsRecordIn text name × (cause ≡ RecordName))
    ⊎ (¬ IsRecordIn text name × Other) → (Other → Answer) → Answer
others_left image text name cause none (inl h) other = absurd (none h.1)
others_left image text name cause none (inr h) other = other h.1

pub record_in : (text name : List ℕ) (whole : Schema) (records : List RecordSetting)
    (one : RecordSetting)
    → SpellsSchema text whole → records ≡ whole.records → IsRecordNamed records name one
    → IsRecordIn text name
record_in text name whole records one spelled are named = record {
  whole = whole;
  spelled = spelled;
  one = one;
  named = subst (λ (rs : List RecordSetting). IsRecordNamed rs name one) are named;
}

-- either takes a store and settings
pub takes_both : {Other : Type 0} (image text name : List ℕ) (cause : Fault)
    → (Other → HasStore image × HasSettings text)
    → (HasStore image × IsRecordIn text name × (cause ≡ RecordName))
    ⊎ (¬ IsRecordIn text name × Other) → HasStore image × HasSettings text
takes_both image text name cause other (inl h) =
    (h.0, (h.1.whole.settings, spells_settings text h.1.whole h.1.spelled))
takes_both image text name cause other (inr h) = other h.1
