-- What a record of a settings file reads as in an image, as `get` and `list` print it.
use Rattle.std.specs.Prelude.{◌≡◌, ◌==◌, ℕ, Bool, List, [], ◌∷◌, ◌++◌, codes, if◌then◌else◌, length}
use Rattle.std.specs.List.{Contains, list_all}
use Rattle.hex.specs.Hex.{encode_lower}
use Rattle.ee_text.specs.Field.{joined_fields}
use Rattle.ee_text.specs.Line.{line_of}
use Rattle.ee_pages.specs.Meaning.{Map}
use Rattle.ee_records.specs.Record.{HasNoRecord, HoldsBytes, IsHurt}
use Rattle.ee_settings.specs.Setting.{RecordForm, RecordSetting, is_text_byte, room_of}
use Rattle.ee_settings.specs.declared.record_setting.RecordKind.{RecordKind}
use Rattle.ee_settings.specs.declared.record_setting.RecordKind.TheVariants.{Bytes, Text}
use Rattle.ee_shell.specs.declared.by_name.recorded.Origin.{Origin}
use Rattle.ee_shell.specs.declared.by_name.recorded.Origin.TheVariants.{Stored, Default, Hurt}

-- the record of this name
abbrev pub IsRecordNamed : List RecordSetting → List ℕ → RecordSetting → Type 0
IsRecordNamed records name one = Contains records one × (one.name ≡ name)

-- no record has the name
abbrev pub IsNoRecord : List RecordSetting → List ℕ → Type 0
IsNoRecord records name = (one : RecordSetting) → ¬ IsRecordNamed records name one

-- between quotes stand the bytes of a text, where each may stand in one, and no bytes at all
abbrev pub is_quoted : RecordKind → List ℕ → Bool
is_quoted Bytes bytes = length bytes == 0
is_quoted Text bytes = list_all is_text_byte bytes

abbrev pub in_quotes : List ℕ → List ℕ
in_quotes bytes = codes "\"" ++ bytes ++ codes "\""

-- all others are two hexadecimal digits each
abbrev pub spelled_bytes : RecordKind → List ℕ → List ℕ
spelled_bytes kind bytes = if is_quoted kind bytes then in_quotes bytes else encode_lower bytes

-- a default is spelled so, and its digits stand in the settings file
abbrev pub spelled_default : RecordForm → List ℕ
spelled_default form =
    if is_quoted form.kind form.default then in_quotes form.default else form.default

-- what a record reads as in a map, spelled: its bytes; or its default, where there is none, or
-- where what there is doesn't fit its check
abbrev pub IsRecordRead : Map → RecordForm → Origin → List ℕ → Type 0
IsRecordRead map form Stored spelled =
    (bytes : List ℕ) × HoldsBytes map form.base (room_of form) bytes
    × (spelled ≡ spelled_bytes form.kind bytes)
IsRecordRead map form Default spelled =
    HasNoRecord map form.base × (spelled ≡ spelled_default form)
IsRecordRead map form Hurt spelled =
    IsHurt map form.base (room_of form) × (spelled ≡ spelled_default form)

abbrev pub origin_word : Origin → List ℕ
origin_word Stored = codes "stored"
origin_word Default = codes "default"
origin_word Hurt = codes "hurt"

-- the line is what the record reads as
abbrev pub IsRecordReading : RecordSetting → Map → List ℕ → Type 0
IsRecordReading one map line =
    (origin : Origin) × (spelled : List ℕ) × IsRecordRead map one.form origin spelled
    × (line ≡ line_of (joined_fields (spelled ∷ origin_word origin ∷ [])))

-- it is what the record of a name reads as
abbrev pub IsRecordLine : List RecordSetting → Map → List ℕ → List ℕ → Type 0
IsRecordLine records map name line =
    (one : RecordSetting) × IsRecordNamed records name one × IsRecordReading one map line
