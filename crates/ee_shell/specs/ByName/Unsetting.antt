-- What `unset` leaves of an image, and each fault under its cause.
use Rattle.std.specs.Prelude.{◌≡◌, ◌≢◌, ◌⊎◌, ℕ, List, None, Ok, codes}
use Rattle.ee_text.specs.Line.{line_of}
use Rattle.ee_flash.specs.Device.{Device}
use Rattle.ee_flash.specs.Size.{Size, slot_count}
use Rattle.ee_core.specs.Calls.{Forgets}
use Rattle.ee_core.specs.Changes.{IsSpent}
use Rattle.ee_core.specs.Openings.{Opens}
use Rattle.ee_core.specs.State.{State, state_of}
use Rattle.ee_core.specs.declared.variables.Written.{Written}
use Rattle.ee_settings.specs.Calls.{IsNamed, IsUnknown}
use Rattle.ee_settings.specs.Setting.{Setting}
use Rattle.ee_interface.specs.declared.script.command.Command.TheVariants.{Forget}
use Rattle.ee_interface.specs.declared.fault.Fault.{Fault}
use Rattle.ee_interface.specs.declared.fault.Fault.TheVariants.{Absent, Memory, RecordName, Spent, UnknownName}
use Rattle.ee_image_store.specs.FileFaults.{IsOpeningFault}
use Rattle.ee_image_store.specs.Opening.{HasStore, IsStoreLeft, IsStoreText, StaysOn}
use Rattle.ee_shell.specs.ByName.Settings.{IsCommandServed, IsRecordIn, IsSettingsFault, SpellsSettings}

-- ---- what is left

-- One forgetting of the address of the name's setting was served, as the report machine answers a
-- forgetting.
pub record IsForgotten (settings : List Setting) (old : Device) (name : List ℕ) (new : Device)
    : Type 0 where
  pub setting : Setting
  pub named : IsNamed settings name setting
  pub served : IsCommandServed old (Forget setting.numbers.address) new
  pub stays_on : StaysOn new
  pub answer : Written
  pub forgotten : Forgets old setting.numbers.address (Ok answer) new

-- The store of the image was opened, and the value of the name's setting was forgotten; so the
-- forgetting was served from the state that the image says.
pub record IsUnset (old_image settings_text name new_image line : List ℕ) : Type 0 where
  pub device : Device
  pub store : Device
  pub last : Device
  pub old : IsStoreText old_image device
  pub opens : Opens device store
  pub settings : List Setting
  pub spelled : SpellsSettings settings_text settings
  pub forgotten : IsForgotten settings store name last
  pub served : IsCommandServed device (Forget forgotten.setting.numbers.address) last
  pub left : IsStoreLeft device.size new_image last
  pub line_is : line ≡ line_of (codes "unset")

-- ---- the faults

-- why the value of an address is not forgotten by a store of this size and state, the first cause
-- that applies
abbrev pub IsForgettingRefusal : Size → State → ℕ → Fault → Type 0
IsForgettingRefusal size state address fault =
    ((state.map address ≡ None) × (fault ≡ Absent))
    ⊎ ((state.map address ≢ None) × IsSpent (slot_count size) state × (fault ≡ Spent))

-- why the value of a name's setting is not forgotten, the first cause that applies; or memory ran
-- out
abbrev pub IsUnsettingRefused : List Setting → Size → State → List ℕ → Fault → Type 0
IsUnsettingRefused settings size state name fault =
    (IsUnknown settings name × (fault ≡ UnknownName))
    ⊎ ((setting : Setting) × IsNamed settings name setting
    × IsForgettingRefusal size state setting.numbers.address fault)
    ⊎ (fault ≡ Memory)

-- the value of the name's setting is not forgotten in the image
pub record IsUnsettingRefusedIn (image settings_text name : List ℕ) (fault : Fault)
    : Type 0 where
  pub device : Device
  pub old : IsStoreText image device
  pub settings : List Setting
  pub spelled : SpellsSettings settings_text settings
  pub refused : IsUnsettingRefused settings device.size (state_of device) name fault

-- why nothing is forgotten, the first cause that applies: no store is opened; or the text spells no
-- settings; or a record has the name; or the forgetting is refused
abbrev pub IsUnsetFault : List ℕ → List ℕ → List ℕ → Fault → Type 0
IsUnsetFault image settings_text name fault =
    IsOpeningFault image fault
    ⊎ (HasStore image × IsSettingsFault settings_text fault)
    ⊎ (HasStore image × IsRecordIn settings_text name × (fault ≡ RecordName))
    ⊎ (¬ IsRecordIn settings_text name × IsUnsettingRefusedIn image settings_text name fault)

-- ---- for the functions within

-- the value of the name's setting was forgotten, and the store left the image, with the line that
-- says so
pub record LeavesUnset (settings : List Setting) (store : Device) (name image line : List ℕ)
    : Type 0 where
  pub last : Device
  pub forgotten : IsForgotten settings store name last
  pub left : IsStoreLeft last.size image last
  pub line_is : line ≡ line_of (codes "unset")
