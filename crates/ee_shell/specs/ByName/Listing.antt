-- What `list` tells of an image, and each fault under its cause.
use Rattle.std.specs.Prelude.{◌≡◌, ℕ, List, [], ◌∷◌, ◌++◌, Option, Some, None, codes, decimal, if◌then◌else◌}
use Rattle.std.specs.List.{flat_map}
use Rattle.ee_text.specs.Field.{joined_fields, space}
use Rattle.ee_text.specs.Line.{line_of}
use Rattle.ee_flash.specs.Device.{Device}
use Rattle.ee_pages.specs.Meaning.{Map}
use Rattle.ee_core.specs.State.{state_of}
use Rattle.ee_settings.specs.Listing.{listed_in}
use Rattle.ee_settings.specs.Setting.{RecordSetting, Schema, Setting, has_record_at}
use Rattle.ee_settings.specs.Stale.{entry_of}
use Rattle.ee_settings.specs.declared.listing.Held.{Held}
use Rattle.ee_settings.specs.declared.listing.Held.TheVariants.{Value, Stale, Default}
use Rattle.ee_settings.specs.declared.listing.Listed.{Listed}
use Rattle.ee_interface.specs.declared.fault.Fault.{Fault}
use Rattle.ee_image_store.specs.FileFaults.{IsOpeningFault}
use Rattle.ee_image_store.specs.Opening.{IsStoreText}
use Rattle.ee_shell.specs.ByName.Records.{IsRecordRead}
use Rattle.ee_shell.specs.ByName.SecondSchema.{name_of}
use Rattle.ee_shell.specs.ByName.Settings.{IsOpenWithSettingsFault, SpellsSchema}
use Rattle.ee_shell.specs.declared.by_name.recorded.Origin.{Origin}
use Rattle.ee_shell.specs.declared.by_name.recorded.Origin.TheVariants as read

-- what an address holds, as words of its line
abbrev pub held_words : Held → List (List ℕ)
held_words (Value value) = decimal value ∷ []
held_words (Stale value) = decimal value ∷ codes "stale" ∷ []
held_words (Default value) = codes "default" ∷ decimal value ∷ []

-- the name of its setting, where it has one
abbrev pub name_words : List Setting → Option ℕ → List (List ℕ)
name_words settings None = []
name_words settings (Some entry) = name_of (entry_of settings entry) ∷ []

-- the line of an address: its number, what it holds, its setting's name
abbrev pub listed_line : List Setting → Listed → List ℕ
listed_line settings listed =
    line_of
    (joined_fields
    (decimal listed.address ∷ held_words listed.held ++ name_words settings listed.entry))

-- there is none, where a record has the address
abbrev pub setting_line : Schema → Listed → List ℕ
setting_line whole listed =
    if has_record_at whole.records listed.address then [] else listed_line whole.settings listed

-- a line for each other, by rising address
abbrev pub listed_lines : Schema → List Listed → List ℕ
listed_lines whole listed = flat_map (setting_line whole) listed

-- what a record reads as, as words of its line
abbrev pub recorded_words : Origin → List ℕ → List (List ℕ)
recorded_words read.Stored spelled = spelled ∷ []
recorded_words read.Default spelled = codes "default" ∷ spelled ∷ []
recorded_words read.Hurt spelled = codes "hurt" ∷ []

-- the line of a record: its first address, what it reads as, its name
abbrev pub told_record : RecordSetting → Origin → List ℕ → List ℕ
told_record one origin spelled =
    line_of
    (joined_fields (decimal one.form.base ∷ recorded_words origin spelled ++ one.name ∷ []))

-- a line for each record, as it reads in a map, by rising name
abbrev pub AreRecordLines : Map → List RecordSetting → List ℕ → Type 0
AreRecordLines map [] lines = lines ≡ []
AreRecordLines map (one ∷ records) lines =
    (origin : Origin) × (spelled : List ℕ) × IsRecordRead map one.form origin spelled
    × (more : List ℕ) × AreRecordLines map records more
    × (lines ≡ told_record one origin spelled ++ more)

-- the lines of the addresses that have a value or a setting, and behind them those of the records
abbrev pub AreLines : Schema → Map → List ℕ → Type 0
AreLines whole map lines =
    (recorded : List ℕ) × AreRecordLines map whole.records recorded
    × (lines ≡ listed_lines whole (listed_in whole.settings map) ++ recorded)

-- the settings and records that are named: none, or those that a text spells
abbrev pub AreNamed : Option (List ℕ) → Schema → Type 0
AreNamed None whole = whole ≡ record { settings = []; records = [] }
AreNamed (Some text) whole = SpellsSchema text whole

-- the lines of what the image holds, by the settings and records
pub record IsList (image : List ℕ) (settings_text : Option (List ℕ)) (lines : List ℕ) : Type 0 where
  pub device : Device
  pub old : IsStoreText image device
  pub whole : Schema
  pub named : AreNamed settings_text whole
  pub lines_are : AreLines whole (state_of device).map lines

-- why nothing is listed, the first cause that applies: no store is opened; or there is a text of
-- settings, which spells none
abbrev pub IsListTextFault : List ℕ → Option (List ℕ) → Fault → Type 0
IsListTextFault image None fault = IsOpeningFault image fault
IsListTextFault image (Some settings_text) fault =
    IsOpenWithSettingsFault image settings_text fault

-- ---- for the functions within

-- words behind others, each with a space before it
abbrev pub words_behind : List (List ℕ) → List ℕ
words_behind words = flat_map (λ word. space ∷ word) words
