-- The commands that look at an image with a later schema: what they give, and each
-- fault under its cause.
use Rattle.std.specs.Prelude.{◌≡◌, ◌⊎◌, ℕ, List, [], ◌∷◌, Option, Some, None, Ok, codes, decimal}
use Rattle.std.specs.List.{flat_map}
use Rattle.ee_text.specs.Field.{joined_fields}
use Rattle.ee_text.specs.Line.{line_of}
use Rattle.ee_flash.specs.Device.{Device}
use Rattle.ee_core.specs.State.{state_of}
use Rattle.ee_settings.specs.Setting.{Schema, Setting}
use Rattle.ee_settings.specs.Stale.{entry_of, stale_in}
use Rattle.ee_settings.specs.Tidying.{IsSpentAmong, Tidies, after_forgettings, kept_map, unnamed_in}
use Rattle.ee_settings.specs.declared.stale.Stale.{Stale}
use Rattle.ee_interface.specs.declared.fault.Fault.{Fault}
use Rattle.ee_interface.specs.declared.fault.Fault.TheVariants.{Spent}
use Rattle.ee_image_store.specs.FileFaults.{IsOpeningFault}
use Rattle.ee_image_store.specs.Opening.{HasStore, IsOpened, IsStoreLeft, IsStoreText, StaysOn}
use Rattle.ee_shell.specs.ByName.Settings.{IsSettingsFault, SpellsSchema, SpellsSettings}

-- ---- what is stale

abbrev pub name_of : Option Setting → List ℕ
name_of None = []
name_of (Some setting) = setting.name

-- a stale entry, as `stale` prints it: its name and its stored value
abbrev pub stale_line : List Setting → Stale → List ℕ
stale_line settings stale =
    line_of (joined_fields (name_of (entry_of settings stale.entry) ∷ decimal stale.value ∷ []))

-- a line for each, by rising entry
abbrev pub stale_lines : List Setting → List Stale → List ℕ
stale_lines settings stale = flat_map (stale_line settings) stale

-- the lines of the settings whose stored value in the image is not in its range
pub record AreStaleLines (image settings_text lines : List ℕ) : Type 0 where
  pub device : Device
  pub old : IsStoreText image device
  pub settings : List Setting
  pub spelled : SpellsSettings settings_text settings
  pub lines_are : lines ≡ stale_lines settings (stale_in (state_of device).map settings)

-- ---- what is left

-- how many addresses were forgotten, as `tidy` prints it
abbrev pub tidied_text : ℕ → List ℕ
tidied_text count = line_of (joined_fields (codes "tidied" ∷ decimal count ∷ []))

-- The store was tidied: it has the values of the addresses of settings and records and no others,
-- its state is what the forgettings made of it, and power and size stay.
pub record IsTidied (schema : Schema) (old : Device) (count : ℕ) (new : Device)
    : Type 0 where
  pub tidied : Tidies schema old (Ok count) new
  pub map_is : (address : ℕ)
      → (state_of new).map address ≡ kept_map schema (state_of old).map address
  pub state_is : state_of new
      ≡ after_forgettings old.size (unnamed_in schema (state_of old).map) (state_of old)
  pub stays_on : StaysOn new
  pub same_size : new.size ≡ old.size

-- The store that was opened from the image was tidied, and the image is left with the values of
-- the addresses of settings and records and no others, in the state that the forgettings made of the one that
-- the old image says.
pub record IsTidiedImage (old_image settings_text new_image line : List ℕ) : Type 0 where
  pub store : Device
  pub opened : IsOpened old_image store
  pub schema : Schema
  pub spelled : SpellsSchema settings_text schema
  pub count : ℕ
  pub last : Device
  pub tidied : Tidies schema store (Ok count) last
  pub map_is : (address : ℕ)
      → (state_of last).map address ≡ kept_map schema (state_of opened.device).map address
  pub state_is : let old = state_of opened.device in
      state_of last ≡ after_forgettings opened.device.size (unnamed_in schema old.map) old
  pub left : IsStoreLeft opened.device.size new_image last
  pub line_is : line ≡ tidied_text count

-- ---- the faults

-- one of the addresses that have a value in the image and that no setting and no record has
-- can't be forgotten: the store is spent
pub record IsSpentFor (image settings_text : List ℕ) (fault : Fault) : Type 0 where
  pub device : Device
  pub old : IsStoreText image device
  pub schema : Schema
  pub spelled : SpellsSchema settings_text schema
  pub spent : IsSpentAmong device.size (unnamed_in schema (state_of device).map) (state_of device)
  pub fault_is : fault ≡ Spent

-- why an image is not tidied, the first cause that applies: no store is opened; or the text spells
-- no settings; or the store is spent
abbrev pub IsTidyImageFault : List ℕ → List ℕ → Fault → Type 0
IsTidyImageFault image settings_text fault =
    IsOpeningFault image fault ⊎ (HasStore image × IsSettingsFault settings_text fault)
    ⊎ IsSpentFor image settings_text fault

-- ---- for the functions within

-- the store was tidied and left the image, with the line that says how many
-- addresses were forgotten
pub record LeavesTidied (schema : Schema) (store : Device) (image line : List ℕ)
    : Type 0 where
  pub count : ℕ
  pub last : Device
  pub tidied : IsTidied schema store count last
  pub left : IsStoreLeft last.size image last
  pub line_is : line ≡ tidied_text count
