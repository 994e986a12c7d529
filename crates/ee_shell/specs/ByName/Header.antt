-- What `header` prints: the settings and the records as constants of a program in C or in Rust, word
-- for word; and each fault under its cause.
use Rattle.std.specs.Prelude.{◌≡◌, ◌++◌, ℕ, List, map, codes, decimal, length}
use Rattle.std.specs.Char.{to_ascii_uppercase}
use Rattle.std.specs.List.{flat_map}
use Rattle.ee_shell.specs.ByName.Settings.{SpellsSchema}
use Rattle.ee_settings.specs.Setting.{RecordSetting, Schema, Setting, room_of}
use Rattle.ee_shell.specs.declared.by_name.language.Language.{Language}
use Rattle.ee_shell.specs.declared.by_name.language.Language.TheVariants.{C, Rust}

-- a name with `A` to `Z` for `a` to `z`
abbrev pub in_capitals : List ℕ → List ℕ
in_capitals name = map to_ascii_uppercase name

-- ---- in C

-- a constant of the setting that has this name: its kind, and its number
unfoldable pub c_constant : List ℕ → List ℕ → ℕ → List ℕ
c_constant name kind number =
    codes "#define EE_" ++ name ++ codes "_" ++ kind ++ codes " " ++ decimal number ++ codes "u\n"

-- the constants of a setting, behind an empty line
abbrev pub c_constants : Setting → List ℕ
c_constants setting =
    codes "\n"
    ++ c_constant (in_capitals setting.name) (codes "ADDRESS") setting.numbers.address
    ++ c_constant (in_capitals setting.name) (codes "MIN") setting.numbers.min
    ++ c_constant (in_capitals setting.name) (codes "MAX") setting.numbers.max
    ++ c_constant (in_capitals setting.name) (codes "DEFAULT") setting.numbers.default

-- the constants of a record, behind an empty line: its room is told in words and in bytes
abbrev pub c_record_constants : RecordSetting → List ℕ
c_record_constants one =
    codes "\n"
    ++ c_constant (in_capitals one.name) (codes "ADDRESS") one.form.base
    ++ c_constant (in_capitals one.name) (codes "WORDS") (room_of one.form)
    ++ c_constant (in_capitals one.name) (codes "BYTES") one.form.size

-- a number of a row
abbrev pub c_number : ℕ → List ℕ
c_number number = codes ", " ++ decimal number ++ codes "u"

-- how the row of this name begins, on a line that a backslash joins to the one before
unfoldable pub c_row_of : List ℕ → List ℕ
c_row_of name = codes " \\\n    SETTING(" ++ name

-- a setting's row of the list
abbrev pub c_row : Setting → List ℕ
c_row setting =
    c_row_of (in_capitals setting.name)
    ++ c_number setting.numbers.address
    ++ c_number setting.numbers.min
    ++ c_number setting.numbers.max
    ++ c_number setting.numbers.default
    ++ codes ")"

-- the constants of each setting and of each record, and the list of all settings, by rising name
abbrev pub c_header : List Setting → List RecordSetting → List ℕ
c_header settings records =
    codes "/* Made by `ee header` from a file of settings. */\n"
    ++ codes "#ifndef EE_SETTINGS_H\n"
    ++ codes "#define EE_SETTINGS_H\n"
    ++ (flat_map c_constants settings ++ flat_map c_record_constants records)
    ++ codes "\n#define EE_SETTINGS(SETTING)"
    ++ flat_map c_row settings
    ++ codes "\n\n#endif\n"

-- ---- in Rust

-- a constant of the setting that has this name: its kind, its type, and its number
abbrev pub rust_constant : List ℕ → List ℕ → List ℕ → ℕ → List ℕ
rust_constant name kind type number =
    codes "pub const " ++ name ++ codes "_" ++ kind ++ codes ": " ++ type ++ codes " = "
    ++ decimal number ++ codes ";\n"

-- the constants of a setting, behind an empty line
abbrev pub rust_constants : Setting → List ℕ
rust_constants setting =
    codes "\n"
    ++ rust_constant (in_capitals setting.name) (codes "ADDRESS") (codes "u16")
    setting.numbers.address
    ++ rust_constant (in_capitals setting.name) (codes "MIN") (codes "u32") setting.numbers.min
    ++ rust_constant (in_capitals setting.name) (codes "MAX") (codes "u32") setting.numbers.max
    ++ rust_constant (in_capitals setting.name) (codes "DEFAULT") (codes "u32")
    setting.numbers.default

-- the constants of a record, behind an empty line
abbrev pub rust_record_constants : RecordSetting → List ℕ
rust_record_constants one =
    codes "\n"
    ++ rust_constant (in_capitals one.name) (codes "ADDRESS") (codes "u16") one.form.base
    ++ rust_constant (in_capitals one.name) (codes "WORDS") (codes "u16") (room_of one.form)
    ++ rust_constant (in_capitals one.name) (codes "BYTES") (codes "usize") one.form.size

-- a number of a row
abbrev pub rust_number : ℕ → List ℕ
rust_number number = codes ", " ++ decimal number

-- a setting's row of the list
abbrev pub rust_row : Setting → List ℕ
rust_row setting =
    codes "    (\"" ++ in_capitals setting.name ++ codes "\""
    ++ rust_number setting.numbers.address
    ++ rust_number setting.numbers.min
    ++ rust_number setting.numbers.max
    ++ rust_number setting.numbers.default
    ++ codes "),\n"

-- how a list of so many rows begins
abbrev pub rust_list : ℕ → List ℕ
rust_list count =
    codes "\n// Name, address, min, max, default.\n"
    ++ codes "pub const SETTINGS: [(&str, u16, u32, u32, u32); " ++ decimal count ++ codes "] = [\n"

-- the constants of each setting and of each record, and the list of all settings, by rising name
abbrev pub rust_header : List Setting → List RecordSetting → List ℕ
rust_header settings records =
    codes "// Made by `ee header --rust` from a file of settings.\n"
    ++ (flat_map rust_constants settings ++ flat_map rust_record_constants records)
    ++ rust_list (length settings)
    ++ flat_map rust_row settings
    ++ codes "];\n"

-- ---- in either

abbrev pub header : Language → List Setting → List RecordSetting → List ℕ
header C settings records = c_header settings records
header Rust settings records = rust_header settings records

-- the header of the settings and records that the text spells
pub record IsHeader (settings_text : List ℕ) (language : Language) (text : List ℕ) : Type 0 where
  pub schema : Schema
  pub spelled : SpellsSchema settings_text schema
  pub text_is : text ≡ header language schema.settings schema.records

-- ---- for the functions within

-- a constant of the setting that has this name: its kind, its type where the language has
-- one, and its number
abbrev pub constant_in : Language → List ℕ → List ℕ → List ℕ → ℕ → List ℕ
constant_in C name kind type number = c_constant name kind number
constant_in Rust name kind type number = rust_constant name kind type number

-- the constants of a setting, behind an empty line
abbrev pub constants_in : Language → Setting → List ℕ
constants_in C = c_constants
constants_in Rust = rust_constants

-- the constants of a record, behind an empty line
abbrev pub record_constants_in : Language → RecordSetting → List ℕ
record_constants_in C = c_record_constants
record_constants_in Rust = rust_record_constants

-- a setting's row of the list
abbrev pub row_in : Language → Setting → List ℕ
row_in C = c_row
row_in Rust = rust_row
