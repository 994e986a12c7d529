-- What `verify` tells of an image beside a text of values, and each fault under its cause.
use Rattle.std.specs.Prelude.{◌≡◌, ◌≢◌, ◌⊎◌, ◌+◌, ◌&&◌, ℕ, ℤ, pos, Bool, true, false, Option, Some, None, List, [], ◌∷◌, ◌++◌, length, codes, decimal}
use Rattle.toml.specs.Data.{Members, integer}
use Rattle.ee_text.specs.Field.{joined_fields}
use Rattle.ee_text.specs.Line.{line_of}
use Rattle.ee_flash.specs.Device.{Device}
use Rattle.ee_core.specs.State.{state_of}
use Rattle.ee_settings.specs.Calls.{IsNamed, IsUnknown}
use Rattle.ee_settings.specs.File.{Entry, HaveRisingKeys, entries_of}
use Rattle.ee_settings.specs.Listing.{held_by}
use Rattle.ee_settings.specs.Setting.{IsInRange, IsSchema, Setting}
use Rattle.ee_settings.specs.declared.listing.Held.{Held}
use Rattle.ee_settings.specs.declared.listing.Held.TheVariants.{Default}
use Rattle.ee_settings.specs.declared.numbers.Numbers.{Numbers}
use Rattle.ee_interface.specs.declared.fault.Fault.{Fault}
use Rattle.ee_interface.specs.declared.fault.Fault.TheVariants.{BadValue, UnknownValue, ValueOutOfRange, ValuesText}
use Rattle.ee_image_store.specs.Opening.{HasStore, IsOpened}
use Rattle.ee_image_store.specs.FileFaults.{IsOpeningFault}
use Rattle.ee_shell.specs.ByName.Applying.{Applies, HasSettings, IsNoNumber, IsOutOfRange}
use Rattle.ee_shell.specs.ByName.Listing.{held_words}
use Rattle.ee_shell.specs.ByName.Settings.{HasNoTree, HasTree, IsSettingsFault, SpellsSettings}

-- ---- what is told. An entry is a name and what stands under it

-- the entry asks for this value of the setting with these numbers, in whose range it is
pub record IsWanted (settings : List Setting) (entry : Entry) (numbers : Numbers) (value : ℕ)
    : Type 0 where
  pub number : entry.1 ≡ integer (pos value)
  pub setting : Setting
  pub named : IsNamed settings entry.0 setting
  pub numbers_are : setting.numbers ≡ numbers
  pub in_range : IsInRange numbers value

-- what the address of a setting holds, by what is stored there
abbrev pub held_of : Numbers → Option ℕ → Held
held_of numbers None = Default numbers.default
held_of numbers (Some value) = held_by numbers value

-- the line of a setting that has another value: its name, what it has, and what it should have
abbrev pub difference_line : List ℕ → Held → ℕ → List ℕ
difference_line name held wanted =
    line_of
    (joined_fields (name ∷ held_words held ++ codes "wanted" ∷ decimal wanted ∷ []))

-- the value of the entry is stored, and nothing is told; or another or none is, which is told
abbrev pub IsCompared : List Setting → Device → Entry → Bool → List ℕ → Type 0
IsCompared settings device entry same text =
    (numbers : Numbers) × (value : ℕ) × IsWanted settings entry numbers value
    × ((((state_of device).map numbers.address ≡ Some value) × (same ≡ true) × (text ≡ []))
    ⊎ (((state_of device).map numbers.address ≢ Some value) × (same ≡ false)
    × (text
    ≡ difference_line entry.0 (held_of numbers ((state_of device).map numbers.address)) value)))

-- so it is of each entry, one after another; same says whether all of them are stored
abbrev pub AreCompared : List Setting → Device → List Entry → Bool → List ℕ → Type 0
AreCompared settings device [] same text = (same ≡ true) × (text ≡ [])
AreCompared settings device (entry ∷ entries) same text =
    (first others : Bool) × (here behind : List ℕ) × IsCompared settings device entry first here
    × AreCompared settings device entries others behind × (same ≡ first && others)
    × (text ≡ here ++ behind)

-- how many values were looked for, as `verify` prints it where all of them are stored
abbrev pub verified_text : Bool → ℕ → List ℕ
verified_text false entries = []
verified_text true entries = line_of (joined_fields (codes "verified" ∷ decimal entries ∷ []))

-- Each entry of the text of values was looked for, by rising name, in the store that was opened
-- from the image: whether all are stored, and what is told.
pub record IsVerified (image settings_text values_text text : List ℕ) (all_stored : Bool)
    : Type 0 where
  pub store : Device
  pub opened : IsOpened image store
  pub settings : List Setting
  pub spelled : SpellsSettings settings_text settings
  pub tree : Members
  pub has_tree : HasTree values_text tree
  pub lines : List ℕ
  pub told : AreCompared settings store (entries_of tree) all_stored lines
  pub text_is : text ≡ lines ++ verified_text all_stored (length (entries_of tree))

-- ---- the faults

-- why the entry of this number asks for no value of a setting, the first cause that applies
abbrev pub IsEntryFault : List Setting → ℕ → Entry → Fault → Type 0
IsEntryFault settings number entry fault =
    (IsNoNumber entry.1 × (fault ≡ BadValue number))
    ⊎ ((value : ℤ) × (entry.1 ≡ integer value) × IsUnknown settings entry.0
    × (fault ≡ UnknownValue number))
    ⊎ ((value : ℤ) × (entry.1 ≡ integer value) × (setting : Setting)
    × IsNamed settings entry.0 setting
    × IsOutOfRange setting value
    × (fault ≡ ValueOutOfRange number setting.numbers.min setting.numbers.max))

-- the first of the entries that asks for none, where so many stand before them
abbrev pub IsFirstEntryFault : List Setting → List Entry → ℕ → Fault → Type 0
IsFirstEntryFault settings [] before fault = ⊥
IsFirstEntryFault settings (entry ∷ entries) before fault =
    IsEntryFault settings (before + 1) entry fault
    ⊎ ((numbers : Numbers) × (value : ℕ) × IsWanted settings entry numbers value
    × IsFirstEntryFault settings entries (before + 1) fault)

-- one of the entries of the text of values asks for no value of a setting
pub record IsEntryFaultIn (image settings_text values_text : List ℕ) (fault : Fault)
    : Type 0 where
  pub has_store : HasStore image
  pub settings : List Setting
  pub spelled : SpellsSettings settings_text settings
  pub tree : Members
  pub has_tree : HasTree values_text tree
  pub first : IsFirstEntryFault settings (entries_of tree) 0 fault

-- why nothing is told, the first cause that applies: no store is opened; or the text spells no
-- settings; or that of the values is no TOML; or an entry asks for no value of a setting
abbrev pub IsVerifyFault : List ℕ → List ℕ → List ℕ → Fault → Type 0
IsVerifyFault image settings_text values_text fault =
    IsOpeningFault image fault
    ⊎ (HasStore image × IsSettingsFault settings_text fault)
    ⊎ (HasStore image × HasSettings settings_text × HasNoTree values_text × (fault ≡ ValuesText))
    ⊎ IsEntryFaultIn image settings_text values_text fault

-- ---- what that says of `apply`

-- of values that are all stored it writes nothing
abbrev pub ApplyingWhatIsVerified : Type 0
ApplyingWhatIsVerified =
    (settings : List Setting) (device : Device) (entries : List Entry) (lines : List ℕ)
    → AreCompared settings device entries true lines → Applies settings entries device 0 device

-- and what it was given is stored
abbrev pub VerifyingWhatIsApplied : Type 0
VerifyingWhatIsApplied =
    (settings : List Setting) → IsSchema settings → (entries : List Entry) → HaveRisingKeys entries
    → (old new : Device) (count : ℕ) → Applies settings entries old count new
    → AreCompared settings new entries true []
