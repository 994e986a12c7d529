-- Records one by one: none of those so far has the name, and what one reads as.
use Rattle.std.proofs.Common.{◌≡◌, ◌≢◌, ◌∙◌, ℕ, ◌<◌, ◌+◌, List, ap, length, get_or, rules, subst, sym}
use Rattle.std.proofs.lemmas.Bool.{cases_lt}
use Rattle.std.proofs.lemmas.List.{get_or_default}
use Rattle.ee_pages.specs.Meaning.{Map}
use Rattle.ee_records.specs.Record.{HasNoRecord, HoldsBytes, IsHurt}
use Rattle.ee_settings.specs.Setting.{RecordForm, RecordSetting, room_of}
use Rattle.ee_settings.specs.declared.record_setting.RecordKind.{RecordKind}
use Rattle.ee_shell.specs.ByName.Records.{IsRecordRead, spelled_bytes, spelled_default}
use Rattle.ee_shell.specs.declared.by_name.recorded.Origin.{Origin}
use Rattle.ee_shell.specs.declared.by_name.recorded.Origin.TheVariants.{Stored, Default, Hurt}

-- of the first n records none has the name
abbrev pub NoneNamed : List RecordSetting → List ℕ → ℕ → Type 0
NoneNamed records name n =
    (k : ℕ) (d : RecordSetting) → k < n → k < length records → (get_or records k d).name ≢ name

pub none_more : (records : List RecordSetting) (name : List ℕ) (n : ℕ) (one : RecordSetting)
    → one ≡ get_or records n one → one.name ≢ name → NoneNamed records name n
    → NoneNamed records name (n + 1)
none_more records name n one here not before k d below inside =
    search (rules, cases_lt, get_or_default)

-- a record that was read where it stands reads so
pub stored_read : (map : Map) (form : RecordForm) (base room : ℕ) (kind : RecordKind)
    (held bytes spelled : List ℕ)
    → base ≡ form.base → room ≡ room_of form → kind ≡ form.kind → HoldsBytes map base room held
    → bytes ≡ held → spelled ≡ spelled_bytes kind bytes → IsRecordRead map form Stored spelled
stored_read map form base room kind held bytes spelled here long same holds are told = (
  held,
  subst (λ (b : ℕ). HoldsBytes map b (room_of form) held) here
      (subst (λ (r : ℕ). HoldsBytes map base r held) long holds),
  told ∙ ap (λ (k : RecordKind). spelled_bytes k bytes) same
      ∙ ap (λ (b : List ℕ). spelled_bytes form.kind b) are,
)

pub default_read : (map : Map) (form : RecordForm) (base : ℕ) (spelled : List ℕ) (origin : Origin)
    → base ≡ form.base → HasNoRecord map base → spelled ≡ spelled_default form
    → origin ≡ Default → IsRecordRead map form origin spelled
default_read map form base spelled origin here none told is =
    subst (λ (o : Origin). IsRecordRead map form o spelled) (sym is)
    (subst (λ (b : ℕ). HasNoRecord map b) here none, told)

pub hurt_read : (map : Map) (form : RecordForm) (base room : ℕ) (spelled : List ℕ)
    (origin : Origin)
    → base ≡ form.base → room ≡ room_of form → IsHurt map base room → spelled ≡ spelled_default form
    → origin ≡ Hurt → IsRecordRead map form origin spelled
hurt_read map form base room spelled origin here long hurt told is =
    subst (λ (o : Origin). IsRecordRead map form o spelled) (sym is) (
      subst (λ (b : ℕ). IsHurt map b (room_of form)) here
          (subst (λ (r : ℕ). IsHurt map base r) long hurt),
      told,
    )
