-- The commands on settings: what a text of settings spells, what is read of it in an image and what
-- is set there, and each fault under its cause.
use Rattle.std.specs.Prelude.{◌≡◌, ◌⊎◌, ℕ, List, [], ◌∷◌, Ok, Err, Some, IsUtf8, codes, decimal}
use Rattle.toml.specs.Data.{Members}
use Rattle.toml.specs.Parse.{parse_document}
use Rattle.ee_text.specs.Field.{joined_fields}
use Rattle.ee_text.specs.Line.{line_of}
use Rattle.ee_flash.specs.Device.{Device}
use Rattle.ee_flash.specs.Size.{Size, slot_count}
use Rattle.ee_core.specs.Calls.{Writes}
use Rattle.ee_core.specs.Changes.{IsFull, IsSpent}
use Rattle.ee_core.specs.Openings.{Opens}
use Rattle.ee_core.specs.State.{State, Wears, pending_pages, state_of}
use Rattle.ee_core.specs.declared.variables.Written.{Written}
use Rattle.ee_settings.specs.Calls.{IsNamed, IsUnknown}
use Rattle.ee_settings.specs.File.{GivesSchema}
use Rattle.ee_settings.specs.Setting.{IsInRange, RecordSetting, Schema, Setting, reading_in}
use Rattle.ee_settings.specs.declared.fault.SchemaFault.{SchemaFault}
use Rattle.ee_settings.specs.declared.fault.SchemaFault.TheVariants as schema
use Rattle.ee_settings.specs.declared.reading.Reading.{Reading}
use Rattle.ee_settings.specs.declared.reading.Reading.TheVariants.{Stored, Default}
use Rattle.ee_interface.specs.declared.script.answer.Answer.TheVariants.{Appended, Moved}
use Rattle.ee_interface.specs.declared.script.command.Command.{Command}
use Rattle.ee_interface.specs.declared.script.command.Command.TheVariants.{Write}
use Rattle.ee_interface.specs.declared.fault.Fault.{Fault}
use Rattle.ee_interface.specs.declared.fault.Fault.TheVariants.{SettingsText, BadName, BadField, BadRange, SameAddress, UnknownName, RecordName, OutOfRange, Full, Spent, Memory}
use Rattle.ee_image_store.specs.FileFaults.{IsOpeningFault}
use Rattle.ee_image_store.specs.Opening.{HasStore, IsStoreLeft, IsStoreText, StaysOn}
use Rattle.ee_image_store.specs.Steps.{Steps}
use Rattle.ee_shell.specs.ByName.Records.{IsNoRecord, IsRecordLine, IsRecordNamed}

-- ---- the text of the settings

-- the bytes are a text, and the text is TOML with this tree
pub record HasTree (text : List ℕ) (tree : Members) : Type 0 where
  pub utf8 : IsUtf8 text
  pub reads : parse_document text ≡ Some tree

abbrev pub HasNoTree : List ℕ → Type 0
HasNoTree text = (tree : Members) → ¬ HasTree text tree

-- the fault of a table of settings that is no schema
abbrev pub fault_of_schema : SchemaFault → Fault
fault_of_schema (schema.BadName entry) = BadName entry
fault_of_schema (schema.BadField entry) = BadField entry
fault_of_schema (schema.BadRange entry) = BadRange entry
fault_of_schema (schema.SameAddress entry) = SameAddress entry
fault_of_schema schema.Memory = Memory

-- the tree of the text is a schema with these settings and records
pub record SpellsSchema (text : List ℕ) (whole : Schema) : Type 0 where
  pub tree : Members
  pub has_tree : HasTree text tree
  pub schema : GivesSchema tree (Ok whole)

-- it is one with these settings, and may have records
pub record SpellsSettings (text : List ℕ) (settings : List Setting) : Type 0 where
  pub tree : Members
  pub has_tree : HasTree text tree
  pub records : List RecordSetting
  pub schema : GivesSchema tree (Ok (record { settings = settings; records = records }))

-- the tree of the text is no schema, for its first fault
pub record HasSchemaFault (text : List ℕ) (fault : Fault) : Type 0 where
  pub tree : Members
  pub has_tree : HasTree text tree
  pub cause : SchemaFault
  pub applies : GivesSchema tree (Err cause)
  pub fault_is : fault ≡ fault_of_schema cause

-- why a text spells no settings: it has no tree; or its tree is no schema; or memory ran out
abbrev pub IsSettingsFault : List ℕ → Fault → Type 0
IsSettingsFault text fault =
    ((fault ≡ SettingsText) × HasNoTree text) ⊎ HasSchemaFault text fault ⊎ (fault ≡ Memory)

-- ---- what is read

-- a reading, as `get` prints it
abbrev pub reading_text : Reading → List ℕ
reading_text (Stored value) = joined_fields (decimal value ∷ codes "stored" ∷ [])
reading_text (Default value) = joined_fields (decimal value ∷ codes "default" ∷ [])

-- what the setting of a name reads as in a state's map
abbrev pub IsSettingRead : List Setting → State → List ℕ → Reading → Type 0
IsSettingRead settings state name reading =
    (setting : Setting) × IsNamed settings name setting × (reading ≡ reading_in state.map setting)

-- the line is the reading of the name's setting in a state's map
abbrev pub IsSettingLine : List Setting → State → List ℕ → List ℕ → Type 0
IsSettingLine settings state name line =
    (reading : Reading) × IsSettingRead settings state name reading
    × (line ≡ line_of (reading_text reading))

-- it is that, or what the name's record reads as
abbrev pub IsReadingLine : Schema → State → List ℕ → List ℕ → Type 0
IsReadingLine whole state name line =
    IsSettingLine whole.settings state name line
    ⊎ IsRecordLine whole.records state.map name line

-- The line is what the name's setting or record reads as in the image.
pub record IsGot (image settings_text name line : List ℕ) : Type 0 where
  pub device : Device
  pub old : IsStoreText image device
  pub whole : Schema
  pub spelled : SpellsSchema settings_text whole
  pub read : IsReadingLine whole (state_of device) name line

-- ---- what is set

-- the command was served: appended, and no page was erased; or moved with the map to the other set,
-- and the pages that waited were erased, each once, and no other
abbrev pub IsCommandServed : Device → Command → Device → Type 0
IsCommandServed old command new =
    (Steps old command Appended new × (new.wear ≡ old.wear))
    ⊎ (Steps old command Moved new × Wears (pending_pages old) old new)

-- the write was served so
abbrev pub IsWriteServed : Device → ℕ → ℕ → Device → Type 0
IsWriteServed old address value new = IsCommandServed old (Write address value) new

-- The value is in the range of the name's setting, and one write of it at the setting's address was
-- served, as the report machine answers a write.
pub record IsWritten (settings : List Setting) (old : Device) (name : List ℕ) (value : ℕ)
    (new : Device) : Type 0 where
  pub setting : Setting
  pub named : IsNamed settings name setting
  pub in_range : IsInRange setting.numbers value
  pub served : IsWriteServed old setting.numbers.address value new
  pub stays_on : StaysOn new
  pub answer : Written
  pub written : Writes old setting.numbers.address value (Ok answer) new

-- The store of the image was opened, and the value was written for the name's setting; so the write
-- was served from the state that the image says.
pub record IsSet (old_image settings_text name : List ℕ) (value : ℕ) (new_image line : List ℕ)
    : Type 0 where
  pub device : Device
  pub store : Device
  pub last : Device
  pub old : IsStoreText old_image device
  pub opens : Opens device store
  pub settings : List Setting
  pub spelled : SpellsSettings settings_text settings
  pub written : IsWritten settings store name value last
  pub served : IsWriteServed device written.setting.numbers.address value last
  pub left : IsStoreLeft device.size new_image last
  pub line_is : line ≡ line_of (codes "set")

-- ---- the faults

-- why a write to a store of this size and state is refused, the first cause that applies
abbrev pub IsWriteRefusal : Size → State → ℕ → Fault → Type 0
IsWriteRefusal size state address fault =
    (IsFull (slot_count size) state address × (fault ≡ Full))
    ⊎ (¬ IsFull (slot_count size) state address × IsSpent (slot_count size) state × (fault ≡ Spent))

-- why a value is not set for a setting, the first cause that applies
abbrev pub IsValueRefusal : Setting → Size → State → ℕ → Fault → Type 0
IsValueRefusal setting size state value fault =
    (¬ IsInRange setting.numbers value
    × (fault ≡ OutOfRange setting.numbers.min setting.numbers.max))
    ⊎ (IsInRange setting.numbers value × IsWriteRefusal size state setting.numbers.address fault)

-- why a value is not set for a name, the first cause that applies; or memory ran out
abbrev pub IsSettingRefused : List Setting → Size → State → List ℕ → ℕ → Fault → Type 0
IsSettingRefused settings size state name value fault =
    (IsUnknown settings name × (fault ≡ UnknownName))
    ⊎ ((setting : Setting) × IsNamed settings name setting
    × IsValueRefusal setting size state value fault)
    ⊎ (fault ≡ Memory)

-- no setting and no record has the name
abbrev pub IsUnknownTo : Schema → List ℕ → Type 0
IsUnknownTo whole name = IsUnknown whole.settings name × IsNoRecord whole.records name

-- the name of no setting and no record that the text spells
pub record IsUnknownIn (settings_text name : List ℕ) : Type 0 where
  pub whole : Schema
  pub spelled : SpellsSchema settings_text whole
  pub unknown : IsUnknownTo whole name

-- the name of a record that the text spells
pub record IsRecordIn (settings_text name : List ℕ) : Type 0 where
  pub whole : Schema
  pub spelled : SpellsSchema settings_text whole
  pub one : RecordSetting
  pub named : IsRecordNamed whole.records name one

-- why an image isn't opened with a text of settings, the first cause that applies: no store is
-- opened; or the text spells no settings
abbrev pub IsOpenWithSettingsFault : List ℕ → List ℕ → Fault → Type 0
IsOpenWithSettingsFault image settings_text fault =
    IsOpeningFault image fault ⊎ (HasStore image × IsSettingsFault settings_text fault)

-- why nothing is read, the first cause that applies: no store is opened; or the text spells no
-- settings; or no setting and no record has the name
abbrev pub IsGetFault : List ℕ → List ℕ → List ℕ → Fault → Type 0
IsGetFault image settings_text name fault =
    IsOpeningFault image fault
    ⊎ (HasStore image × IsSettingsFault settings_text fault)
    ⊎ (HasStore image × IsUnknownIn settings_text name × (fault ≡ UnknownName))

-- the value is not set for the name in the image
pub record IsRefusedIn (image settings_text name : List ℕ) (value : ℕ) (fault : Fault)
    : Type 0 where
  pub device : Device
  pub old : IsStoreText image device
  pub settings : List Setting
  pub spelled : SpellsSettings settings_text settings
  pub refused : IsSettingRefused settings device.size (state_of device) name value fault

-- why nothing is set, the first cause that applies: no store is opened; or the text spells no
-- settings; or a record has the name; or the value is refused
abbrev pub IsSetFault : List ℕ → List ℕ → List ℕ → ℕ → Fault → Type 0
IsSetFault image settings_text name value fault =
    IsOpeningFault image fault
    ⊎ (HasStore image × IsSettingsFault settings_text fault)
    ⊎ (HasStore image × IsRecordIn settings_text name × (fault ≡ RecordName))
    ⊎ (¬ IsRecordIn settings_text name × IsRefusedIn image settings_text name value fault)

-- ---- for the functions within

-- the value was written for the name's setting, and the store left the image, with
-- the line that says so
pub record LeavesSet (settings : List Setting) (store : Device) (name : List ℕ) (value : ℕ)
    (image line : List ℕ) : Type 0 where
  pub last : Device
  pub written : IsWritten settings store name value last
  pub left : IsStoreLeft last.size image last
  pub line_is : line ≡ line_of (codes "set")
