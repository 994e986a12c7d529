-- What `apply` sets by a text of values, and each fault under its cause.
use Rattle.std.specs.Prelude.{◌≡◌, ◌≢◌, ◌⊎◌, ◌+◌, ℕ, ℤ, pos, List, [], ◌∷◌, ◌++◌, length, Some, codes, decimal}
use Rattle.std.specs.List.{All, Contains}
use Rattle.toml.specs.Data.{Data, Members, integer}
use Rattle.ee_text.specs.Field.{joined_fields}
use Rattle.ee_text.specs.Line.{line_of}
use Rattle.ee_flash.specs.Device.{Device}
use Rattle.ee_flash.specs.Size.{Size, slot_count}
use Rattle.ee_core.specs.Changes.{IsFull, IsSpent}
use Rattle.ee_core.specs.State.{State, state_of}
use Rattle.ee_settings.specs.Calls.{IsNamed, IsUnknown}
use Rattle.ee_settings.specs.File.{Entry, HaveRisingKeys, entries_of}
use Rattle.ee_settings.specs.Setting.{IsInRange, IsSchema, Setting}
use Rattle.ee_interface.specs.declared.fault.Fault.{Fault}
use Rattle.ee_interface.specs.declared.fault.Fault.TheVariants.{ValuesText, BadValue, UnknownValue, ValueOutOfRange, FullAt, SpentAt}
use Rattle.ee_image_store.specs.Opening.{HasStore, IsOpened, IsStoreLeft}
use Rattle.ee_image_store.specs.FileFaults.{IsOpeningFault}
use Rattle.ee_shell.specs.ByName.Settings.{HasNoTree, HasTree, IsSettingsFault, IsWritten, SpellsSettings}

-- ---- what is set. An entry is a name and what stands under it

-- the address of the setting that the entry names has the entry's value, which is in the range
pub record IsStored (settings : List Setting) (device : Device) (entry : Entry) : Type 0 where
  pub value : ℕ
  pub number : entry.1 ≡ integer (pos value)
  pub setting : Setting
  pub named : IsNamed settings entry.0 setting
  pub in_range : IsInRange setting.numbers value
  pub stored : (state_of device).map setting.numbers.address ≡ Some value

-- that address had another value or none, and the entry's was written
pub record IsNewlyWritten (settings : List Setting) (old : Device) (entry : Entry) (new : Device)
    : Type 0 where
  pub value : ℕ
  pub number : entry.1 ≡ integer (pos value)
  pub setting : Setting
  pub named : IsNamed settings entry.0 setting
  pub another : (state_of old).map setting.numbers.address ≢ Some value
  pub written : IsWritten settings old entry.0 value new

-- the entry was taken by so many writes: by none, and nothing changed, or by one
abbrev pub TakesEntry : List Setting → Device → Entry → ℕ → Device → Type 0
TakesEntry settings old entry count new =
    (IsStored settings old entry × (count ≡ 0) × (new ≡ old))
    ⊎ (IsNewlyWritten settings old entry new × (count ≡ 1))

-- the entries were taken, one after another, by so many writes
abbrev pub Applies : List Setting → List Entry → Device → ℕ → Device → Type 0
Applies settings [] old count new = (count ≡ 0) × (new ≡ old)
Applies settings (entry ∷ entries) old count new =
    (first : ℕ) × (between : Device) × (others : ℕ) × TakesEntry settings old entry first between
    × Applies settings entries between others new × (count ≡ first + others)

-- how many of the entries were written, as `apply` prints it
abbrev pub applied_text : ℕ → ℕ → List ℕ
applied_text count entries =
    line_of (joined_fields (codes "applied" ∷ decimal count ∷ codes "of" ∷ decimal entries ∷ []))

-- Each entry of the text of values was taken, by rising name, by the store that was
-- opened from the image.
pub record IsApplied (old_image settings_text values_text new_image line : List ℕ) : Type 0 where
  pub store : Device
  pub opened : IsOpened old_image store
  pub settings : List Setting
  pub spelled : SpellsSettings settings_text settings
  pub tree : Members
  pub has_tree : HasTree values_text tree
  pub count : ℕ
  pub last : Device
  pub applied : Applies settings (entries_of tree) store count last
  pub left : IsStoreLeft opened.device.size new_image last
  pub line_is : line ≡ applied_text count (length (entries_of tree))

-- ---- the faults

-- no whole number
abbrev pub IsNoNumber : Data → Type 0
IsNoNumber tree = (number : ℤ) → tree ≢ integer number

-- no number in the range of the setting
abbrev pub IsOutOfRange : Setting → ℤ → Type 0
IsOutOfRange setting number = (value : ℕ) → IsInRange setting.numbers value → number ≢ pos value

-- why a value is not written at the address, the first cause that applies, told of the entry
abbrev pub IsWriteRefusalAt : Size → State → ℕ → ℕ → Fault → Type 0
IsWriteRefusalAt size state entry address fault =
    (IsFull (slot_count size) state address × (fault ≡ FullAt entry))
    ⊎ (¬ IsFull (slot_count size) state address × IsSpent (slot_count size) state
    × (fault ≡ SpentAt entry))

-- why a number is not set for the setting, the first cause that applies: it is not in the range; or
-- it isn't stored already, and is not written
abbrev pub IsNumberRefusal : Setting → Size → State → ℕ → ℤ → Fault → Type 0
IsNumberRefusal setting size state entry number fault =
    (IsOutOfRange setting number
    × (fault ≡ ValueOutOfRange entry setting.numbers.min setting.numbers.max))
    ⊎ ((value : ℕ) × (number ≡ pos value) × IsInRange setting.numbers value
    × (state.map setting.numbers.address ≢ Some value)
    × IsWriteRefusalAt size state entry setting.numbers.address fault)

-- why the entry of this number is refused by a store of this size and state, the
-- first cause that applies
abbrev pub IsEntryRefusal : List Setting → Size → State → ℕ → Entry → Fault → Type 0
IsEntryRefusal settings size state number entry fault =
    (IsNoNumber entry.1 × (fault ≡ BadValue number))
    ⊎ ((value : ℤ) × (entry.1 ≡ integer value) × IsUnknown settings entry.0
    × (fault ≡ UnknownValue number))
    ⊎ ((value : ℤ) × (entry.1 ≡ integer value) × (setting : Setting)
    × IsNamed settings entry.0 setting
    × IsNumberRefusal setting size state number value fault)

-- an entry is the first that is refused, counted from 1: those before it were taken, and it is
-- refused by what they left
pub record StopsAtEntry (settings : List Setting) (entries : List Entry) (old : Device)
    (fault : Fault) : Type 0 where
  pub before : List Entry
  pub entry : Entry
  pub after : List Entry
  pub split : entries ≡ before ++ entry ∷ after
  pub count : ℕ
  pub mid : Device
  pub applied : Applies settings before old count mid
  pub refused : IsEntryRefusal settings mid.size (state_of mid) (length before + 1) entry fault

-- the store that is opened from the image refuses one of the entries of the text of values
pub record IsValueFault (image settings_text values_text : List ℕ) (fault : Fault) : Type 0 where
  pub store : Device
  pub opened : IsOpened image store
  pub settings : List Setting
  pub spelled : SpellsSettings settings_text settings
  pub tree : Members
  pub has_tree : HasTree values_text tree
  pub stops : StopsAtEntry settings (entries_of tree) store fault

-- the text spells settings
abbrev pub HasSettings : List ℕ → Type 0
HasSettings settings_text = (settings : List Setting) × SpellsSettings settings_text settings

-- why nothing is applied, the first cause that applies: no store is opened; or the text spells no
-- settings; or that of the values is no TOML; or an entry is refused
abbrev pub IsApplyFault : List ℕ → List ℕ → List ℕ → Fault → Type 0
IsApplyFault image settings_text values_text fault =
    IsOpeningFault image fault
    ⊎ (HasStore image × IsSettingsFault settings_text fault)
    ⊎ (HasStore image × HasSettings settings_text × HasNoTree values_text × (fault ≡ ValuesText))
    ⊎ IsValueFault image settings_text values_text fault

-- ---- what that leaves of the map

-- one of the entries names a setting with this address
abbrev pub NamesAddress : List Setting → List Entry → ℕ → Type 0
NamesAddress settings entries address =
    (entry : Entry) × Contains entries entry × (setting : Setting)
    × IsNamed settings entry.0 setting
    × (setting.numbers.address ≡ address)

-- each entry's value is stored, and every other address is as before
pub record IsMapApplied (settings : List Setting) (entries : List Entry) (old new : Device)
    : Type 0 where
  pub stored : All (IsStored settings new) entries
  pub others : (address : ℕ) → ¬ NamesAddress settings entries address
      → (state_of new).map address ≡ (state_of old).map address

abbrev pub ApplyingStoresValues : Type 0
ApplyingStoresValues =
    (settings : List Setting) → IsSchema settings → (entries : List Entry) → HaveRisingKeys entries
    → (old new : Device) (count : ℕ) → Applies settings entries old count new
    → IsMapApplied settings entries old new

-- applied once more, they write nothing
abbrev pub ApplyingTwiceWritesNothing : Type 0
ApplyingTwiceWritesNothing =
    (settings : List Setting) → IsSchema settings → (entries : List Entry) → HaveRisingKeys entries
    → (old new : Device) (count : ℕ) → Applies settings entries old count new
    → Applies settings entries new 0 new

-- ---- for the functions within

-- each entry was taken and the store left the image, with the line that says how many
-- of them were written
pub record LeavesApplied (settings : List Setting) (entries : List Entry) (store : Device)
    (image line : List ℕ) : Type 0 where
  pub count : ℕ
  pub last : Device
  pub applied : Applies settings entries store count last
  pub left : IsStoreLeft last.size image last
  pub line_is : line ≡ applied_text count (length entries)
