-- What a table of settings says: the settings that it spells, or the first fault in it.
use Rattle.std.specs.Prelude.{◌≡◌, ⊤, ◌≢◌, ◌⊎◌, ◌+◌, ℕ, ℤ, pos, true, is_some, if◌then◌else◌, List, [], ◌∷◌, ◌++◌, length, map, codes, Some, Result, Ok, Err}
use Rattle.std.specs.Cmp.Lexicographic.{slice_cmp}
use Rattle.std.specs.List.Sorted.{IsStrictlySortedBy}
use Rattle.std.specs.Ordering.{nat_cmp}
use Rattle.toml.specs.Data.{Data, Members, get_member, integer, member, no_members, string, table}
use Rattle.ee_settings.specs.Setting.{HaveApartAddresses, AreProper, HaveRisingNames, IsName, IsProperForm, IsProperRecord, IsProperSetting, Item, Kept, Number, RecordForm, RecordSetting, Schema, Setting, is_named, item_has}
use Rattle.ee_settings.specs.declared.numbers.Fields.{Fields}
use Rattle.ee_settings.specs.declared.numbers.Numbers.{Numbers}
use Rattle.ee_settings.specs.declared.record_setting.RecordKind.{RecordKind}
use Rattle.ee_settings.specs.declared.record_setting.RecordKind.TheVariants.{Bytes, Text}
use Rattle.ee_settings.specs.declared.fault.SchemaFault.{SchemaFault}
use Rattle.ee_settings.specs.declared.fault.SchemaFault.TheVariants as fault

-- a name in the top table, and what stands under it
abbrev pub Entry : Type 0
Entry = List ℕ × Data

-- the entries of a table, by rising name
abbrev pub entries_of : Members → List Entry
entries_of no_members = []
entries_of (member name value members) = (name, value) ∷ entries_of members

-- a table of these four whole numbers and of nothing else
pub record HasFields (members : Members) (fields : Fields) : Type 0 where
  pub four : length (entries_of members) ≡ 4
  pub address : get_member (codes "address") members ≡ Some (integer fields.address)
  pub min : get_member (codes "min") members ≡ Some (integer fields.min)
  pub max : get_member (codes "max") members ≡ Some (integer fields.max)
  pub default : get_member (codes "default") members ≡ Some (integer fields.default)

abbrev pub IsTableOf : Data → Fields → Type 0
IsTableOf (table members) fields = HasFields members fields
IsTableOf _ fields = ⊥

-- what stands in the entry of a record
pub record RecordFields : Type 0 where
  pub address : ℤ
  pub kind : RecordKind
  pub size : ℤ
  pub default : List ℕ

-- the key of a record's size
abbrev pub key_of : RecordKind → List ℕ
key_of Bytes = codes "bytes"
key_of Text = codes "text"

-- a record is bytes, if the table says how many, and else a text
abbrev pub kind_in : Members → RecordKind
kind_in members = if is_some (get_member (codes "bytes") members) then Bytes else Text

-- a table of these two whole numbers and this text, and of nothing else
pub record HasRecordFields (members : Members) (fields : RecordFields) : Type 0 where
  pub three : length (entries_of members) ≡ 3
  pub kind : fields.kind ≡ kind_in members
  pub address : get_member (codes "address") members ≡ Some (integer fields.address)
  pub size : get_member (key_of fields.kind) members ≡ Some (integer fields.size)
  pub default : get_member (codes "default") members ≡ Some (string fields.default)

abbrev pub IsRecordTableOf : Data → RecordFields → Type 0
IsRecordTableOf (table members) fields = HasRecordFields members fields
IsRecordTableOf _ fields = ⊥

-- the names rise in the order of bytes, as in every table
abbrev pub HaveRisingKeys : List Entry → Type 0
HaveRisingKeys entries = IsStrictlySortedBy (slice_cmp nat_cmp) (map (λ entry. entry.0) entries)

-- the four whole numbers that spell the numbers of a setting
abbrev pub fields_of_numbers : Numbers → Fields
fields_of_numbers numbers = record {
  address = pos numbers.address;
  min = pos numbers.min;
  max = pos numbers.max;
  default = pos numbers.default;
}

-- what spells a record
abbrev pub fields_of_record : RecordForm → RecordFields
fields_of_record form = record {
  address = pos form.base;
  kind = form.kind;
  size = pos form.size;
  default = form.default;
}

-- an entry is the setting, with its name and its numbers
pub record IsSettingOf (entry : Entry) (setting : Setting) : Type 0 where
  pub name : setting.name ≡ entry.0
  pub numbers : IsTableOf entry.1 (fields_of_numbers setting.numbers)
  pub proper : IsProperSetting setting

-- an entry is the record, with its name and what it is
pub record IsRecordOf (entry : Entry) (one : RecordSetting) : Type 0 where
  pub name : one.name ≡ entry.0
  pub form : IsRecordTableOf entry.1 (fields_of_record one.form)
  pub proper : IsProperRecord one

abbrev pub IsEntryOf : Entry → Item → Type 0
IsEntryOf entry (Number setting) = IsSettingOf entry setting
IsEntryOf entry (Kept one) = IsRecordOf entry one

-- each entry is the item in the same place
abbrev pub AreEntriesOf : List Entry → List Item → Type 0
AreEntriesOf [] [] = ⊤
AreEntriesOf (entry ∷ entries) (item ∷ items) = IsEntryOf entry item × AreEntriesOf entries items
AreEntriesOf _ _ = ⊥

-- the settings among these items
abbrev pub numbers_in : List Item → List Setting
numbers_in [] = []
numbers_in (Number setting ∷ items) = setting ∷ numbers_in items
numbers_in (Kept one ∷ items) = numbers_in items

-- the records among them
abbrev pub records_in : List Item → List RecordSetting
records_in [] = []
records_in (Number setting ∷ items) = records_in items
records_in (Kept one ∷ items) = one ∷ records_in items

-- a table is the schema with these settings and records
pub record IsSchemaOf (entries : List Entry) (schema : Schema) : Type 0 where
  pub items : List Item
  pub each : AreEntriesOf entries items
  pub apart : HaveApartAddresses items
  pub settings_are : schema.settings ≡ numbers_in items
  pub records_are : schema.records ≡ records_in items

-- no four whole numbers are all that it has, and no two and a text
pub record HasBadField (value : Data) : Type 0 where
  pub no_numbers : (fields : Fields) → ¬ IsTableOf value fields
  pub no_record : (fields : RecordFields) → ¬ IsRecordTableOf value fields

-- these are not the numbers of a setting
abbrev pub HaveBadRange : Fields → Type 0
HaveBadRange fields = (numbers : Numbers) → AreProper numbers → fields ≢ fields_of_numbers numbers

-- this is not what a record is
abbrev pub HasBadForm : RecordFields → Type 0
HasBadForm fields = (form : RecordForm) → IsProperForm form → fields ≢ fields_of_record form

-- an address of the item is that of an earlier one
abbrev pub IsTaken : Schema → Item → Type 0
IsTaken earlier item =
    (address : ℕ) × (item_has item address ≡ true) × (is_named earlier address ≡ true)

-- the rules that an entry can break, in the order in which they are tried
pub data Rule : Type 0 where
  Name : Rule
  Field : Rule
  Range : Rule
  Address : Rule

-- the first rule that an entry behind these settings and records breaks
abbrev pub BreaksFirst : Rule → Schema → Entry → Type 0
BreaksFirst Name earlier entry = ¬ IsName entry.0
BreaksFirst Field earlier entry = IsName entry.0 × HasBadField entry.1
BreaksFirst Range earlier entry =
    IsName entry.0
    × (((fields : Fields) × IsTableOf entry.1 fields × HaveBadRange fields)
    ⊎ ((fields : RecordFields) × IsRecordTableOf entry.1 fields × HasBadForm fields))
BreaksFirst Address earlier entry = (item : Item) × IsEntryOf entry item × IsTaken earlier item

-- the entry of this number, counted from 1, breaks this rule, and those before it break none
pub record IsFirstFault (entries : List Entry) (number : ℕ) (rule : Rule) : Type 0 where
  pub before : List Entry
  pub entry : Entry
  pub after : List Entry
  pub schema : Schema
  pub split : entries ≡ before ++ entry ∷ after
  pub number_is : number ≡ length before + 1
  pub good : IsSchemaOf before schema
  pub bad : BreaksFirst rule schema entry

-- why a table is no schema; memory may be wanting for any
abbrev pub IsSchemaFault : List Entry → SchemaFault → Type 0
IsSchemaFault entries (fault.BadName number) = IsFirstFault entries number Name
IsSchemaFault entries (fault.BadField number) = IsFirstFault entries number Field
IsSchemaFault entries (fault.BadRange number) = IsFirstFault entries number Range
IsSchemaFault entries (fault.SameAddress number) = IsFirstFault entries number Address
IsSchemaFault entries fault.Memory = ⊤

-- what a table gives
abbrev pub GivesSchema : Members → Result Schema SchemaFault → Type 0
GivesSchema members (Ok schema) =
    IsSchemaOf (entries_of members) schema × HaveRisingNames schema.settings
    × HaveRisingKeys (entries_of members)
GivesSchema members (Err fault) = IsSchemaFault (entries_of members) fault

-- ---- for the functions within

-- what reading the entry of this number gives, behind these
abbrev pub GivesItem : Schema → ℕ → Entry → Result Item SchemaFault → Type 0
GivesItem earlier number entry (Ok item) = IsEntryOf entry item × ¬ IsTaken earlier item
GivesItem earlier number entry (Err (fault.BadName at)) =
    (at ≡ number) × BreaksFirst Name earlier entry
GivesItem earlier number entry (Err (fault.BadField at)) =
    (at ≡ number) × BreaksFirst Field earlier entry
GivesItem earlier number entry (Err (fault.BadRange at)) =
    (at ≡ number) × BreaksFirst Range earlier entry
GivesItem earlier number entry (Err (fault.SameAddress at)) =
    (at ≡ number) × BreaksFirst Address earlier entry
GivesItem earlier number entry (Err fault.Memory) = ⊤
