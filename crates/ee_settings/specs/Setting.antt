-- Settings: what they are called, what they may be, and what they read as.
use Rattle.std.specs.Prelude.{◌≡◌, ◌<◌, ◌≤◌, ◌^◌, ◌+◌, ◌*◌, ◌/◌, ◌%◌, ℕ, Bool, ◌&&◌, ◌||◌, ◌==◌, not, List, [], ◌∷◌, ◌++◌, length, map, nat_le, true, false, if◌then◌else◌, Option, Some, None}
use Rattle.std.specs.Cmp.Lexicographic.{slice_cmp}
use Rattle.std.specs.List.{Contains, list_all, list_any}
use Rattle.std.specs.List.Sorted.{IsStrictlySortedBy}
use Rattle.std.specs.Ordering.{nat_cmp}
use Rattle.ee_codec.specs.Words.{IsAddress}
use Rattle.ee_pages.specs.Meaning.{Map}
use Rattle.ee_settings.specs.declared.numbers.Numbers.{Numbers}
use Rattle.ee_settings.specs.declared.record_setting.RecordKind.{RecordKind}
use Rattle.ee_settings.specs.declared.record_setting.RecordKind.TheVariants.{Bytes, Text}
use Rattle.ee_settings.specs.declared.reading.Reading.{Reading}
use Rattle.ee_settings.specs.declared.reading.Reading.TheVariants.{Stored, Default}

-- a value under a name, with its numbers: the address that it is stored at, the least and the
-- greatest that it may be, and what it is otherwise
pub record Setting : Type 0 where
  pub name : List ℕ
  pub numbers : Numbers

-- `a` to `z`
abbrev pub is_letter : ℕ → Bool
is_letter byte = nat_le 97 byte && nat_le byte 122

-- `0` to `9`
abbrev pub is_digit : ℕ → Bool
is_digit byte = nat_le 48 byte && nat_le byte 57

-- a letter, a digit or `_`
abbrev pub is_name_byte : ℕ → Bool
is_name_byte byte = is_letter byte || is_digit byte || byte == 95

abbrev pub begins_with_letter : List ℕ → Bool
begins_with_letter [] = false
begins_with_letter (byte ∷ bytes) = is_letter byte

-- 1 to 32 bytes of these, the first of them a letter
abbrev pub is_name : List ℕ → Bool
is_name name = begins_with_letter name && nat_le (length name) 32 && list_all is_name_byte name

abbrev pub IsName : List ℕ → Type 0
IsName name = is_name name ≡ true

-- the value is one that the setting may have
abbrev pub IsInRange : Numbers → ℕ → Type 0
IsInRange numbers value = (numbers.min ≤ value) × (value ≤ numbers.max)

-- the same as a test
abbrev pub is_in_range : Numbers → ℕ → Bool
is_in_range numbers value = nat_le numbers.min value && nat_le value numbers.max

-- the address is proper, the other numbers are of 32 bits, and the default is in the range
pub record AreProper (numbers : Numbers) : Type 0 where
  pub address : IsAddress numbers.address
  pub max : numbers.max < 2 ^ 32
  pub default : IsInRange numbers numbers.default

pub record IsProperSetting (setting : Setting) : Type 0 where
  pub name : IsName setting.name
  pub numbers : AreProper setting.numbers

-- whether a setting has the address
abbrev pub has_address : List Setting → ℕ → Bool
has_address settings address = list_any (λ setting. setting.numbers.address == address) settings

-- no two settings have one address
abbrev pub HaveOwnAddresses : List Setting → Type 0
HaveOwnAddresses settings = (one other : Setting)
    → Contains settings one → Contains settings other → one.numbers.address ≡ other.numbers.address
    → one ≡ other

-- the names rise in the order of bytes, so no two are one
abbrev pub HaveRisingNames : List Setting → Type 0
HaveRisingNames settings =
    IsStrictlySortedBy (slice_cmp nat_cmp) (map (λ setting. setting.name) settings)

-- what the settings of a program are
pub record IsSchema (settings : List Setting) : Type 0 where
  pub names : HaveRisingNames settings
  pub addresses : HaveOwnAddresses settings

-- the value that an address has, if it is in range, else the default
abbrev pub reading_of : Numbers → Option ℕ → Reading
reading_of numbers None = Default numbers.default
reading_of numbers (Some value) =
    if is_in_range numbers value then Stored value else Default numbers.default

-- what a setting reads as in a store's map
abbrev pub reading_in : Map → Setting → Reading
reading_in stored setting = reading_of setting.numbers (stored setting.numbers.address)

-- ---- records

-- where a record stands, whether it is bytes or a text, how many bytes it has at the most, and what
-- it is otherwise, as a settings file spells it
pub record RecordForm : Type 0 where
  pub base : ℕ
  pub kind : RecordKind
  pub size : ℕ
  pub default : List ℕ

-- a record under a name
pub record RecordSetting : Type 0 where
  pub name : List ℕ
  pub form : RecordForm

-- its room, in words of four bytes
abbrev pub room_of : RecordForm → ℕ
room_of form = (form.size + 3) / 4

-- its last address: behind its head it has two for its check, and two for each word
abbrev pub last_address_of : RecordForm → ℕ
last_address_of form = form.base + 2 * (room_of form + 1)

-- the address is one of the record's
abbrev pub is_of : RecordForm → ℕ → Bool
is_of form address = nat_le form.base address && nat_le address (last_address_of form)

-- `0` to `9` and `a` to `f`
abbrev pub is_hex_byte : ℕ → Bool
is_hex_byte byte = is_digit byte || (nat_le 97 byte && nat_le byte 102)

-- from the space to `~`, but no quotes and no backslash
abbrev pub is_text_byte : ℕ → Bool
is_text_byte byte = nat_le 32 byte && nat_le byte 126 && not (byte == 34 || byte == 92)

-- two digits for each of so many bytes at the most; or a text of so many
abbrev pub is_default : RecordKind → ℕ → List ℕ → Bool
is_default Bytes size spelled =
    length spelled % 2 == 0 && nat_le (length spelled) (2 * size) && list_all is_hex_byte spelled
is_default Text size spelled = nat_le (length spelled) size && list_all is_text_byte spelled

-- its addresses are proper, it has room for a byte and for 65532 at the most, and the default is one
-- that it may have
pub record IsProperForm (form : RecordForm) : Type 0 where
  pub base : IsAddress form.base
  pub some : 0 < form.size
  pub few : room_of form < 16384
  pub last : last_address_of form < 65535
  pub default : is_default form.kind form.size form.default ≡ true

pub record IsProperRecord (one : RecordSetting) : Type 0 where
  pub name : IsName one.name
  pub form : IsProperForm one.form

-- ---- settings and records

-- what an entry of a settings file is
pub data Item : Type 0 where
  Number : Setting → Item
  Kept : RecordSetting → Item

abbrev pub name_of_item : Item → List ℕ
name_of_item (Number setting) = setting.name
name_of_item (Kept one) = one.name

-- the item has the address
abbrev pub item_has : Item → ℕ → Bool
item_has (Number setting) address = setting.numbers.address == address
item_has (Kept one) address = is_of one.form address

-- no two items have one address
abbrev pub HaveApartAddresses : List Item → Type 0
HaveApartAddresses items = (one other : Item) → Contains items one → Contains items other
    → (address : ℕ) → item_has one address ≡ true → item_has other address ≡ true → one ≡ other

-- the settings and the records of a program
pub record Schema : Type 0 where
  pub settings : List Setting
  pub records : List RecordSetting

-- with one more behind them
abbrev pub with_item : Schema → Item → Schema
with_item schema (Number setting) =
    record { settings = schema.settings ++ setting ∷ []; records = schema.records }
with_item schema (Kept one) =
    record { settings = schema.settings; records = schema.records ++ one ∷ [] }

-- a record has the address
abbrev pub has_record_at : List RecordSetting → ℕ → Bool
has_record_at records address = list_any (λ one. is_of one.form address) records

-- a setting or a record has the address
abbrev pub is_named : Schema → ℕ → Bool
is_named schema address =
    has_address schema.settings address || has_record_at schema.records address
