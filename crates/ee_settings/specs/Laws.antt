-- What a set setting leaves, over all schemas and all stores, and that tables have one meaning.
use Rattle.std.specs.Prelude.{◌≡◌, ◌≢◌, ◌⊎◌, ◌++◌, ℕ, false, None, List, length, map, Result, Ok, Err}
use Rattle.std.specs.List.{All, Contains, flat_map}
use Rattle.std.specs.List.Sorted.{IsStrictlySortedBy}
use Rattle.std.specs.Ordering.{nat_cmp}
use Rattle.ee_flash.specs.Device.{Device, IsFormed}
use Rattle.ee_flash.specs.Taking.{Completes, IsCutAmong}
use Rattle.ee_pages.specs.Meaning.{Forget, Map}
use Rattle.ee_core.specs.Runs.{Call, IsWholeRun, changes_of_call}
use Rattle.ee_core.specs.State.{state_of}
use Rattle.ee_core.specs.declared.variables.Written.{Written}
use Rattle.ee_core.specs.declared.variables.WriteFault.TheVariants as write
use Rattle.ee_settings.specs.Listing.{IsListedSo, IsToldOf, listed_in}
use Rattle.ee_settings.specs.Setting.{IsSchema, Schema, Setting, is_named, reading_in}
use Rattle.ee_settings.specs.Stale.{IsStale, stale_in}
use Rattle.ee_settings.specs.declared.listing.Listed.{Listed}
use Rattle.ee_settings.specs.declared.stale.Stale.{Stale}
use Rattle.ee_settings.specs.Tidying.{IsSpentAmong, Tidies, after_forgettings, kept_map, steps_of_forgetting, unnamed_in}
use Rattle.toml.specs.Data.{Members}
use Rattle.ee_settings.specs.Calls.{IsNamed, Sets}
use Rattle.ee_settings.specs.File.{GivesSchema, HaveRisingKeys, entries_of}
use Rattle.ee_settings.specs.declared.fault.SchemaFault.{SchemaFault}
use Rattle.ee_settings.specs.declared.fault.SchemaFault.TheVariants as refusal
use Rattle.ee_settings.specs.declared.fault.SetFault.{SetFault}
use Rattle.ee_settings.specs.declared.fault.SetFault.TheVariants as set
use Rattle.ee_settings.specs.declared.fault.TidyFault.{TidyFault}
use Rattle.ee_settings.specs.declared.fault.TidyFault.TheVariants as tidy
use Rattle.ee_settings.specs.declared.reading.Reading.TheVariants.{Stored}

-- each setting of another name reads as before
abbrev pub KeepsOthers : List Setting → List ℕ → Device → Device → Type 0
KeepsOthers settings name old new = (other : Setting) → Contains settings other → other.name ≢ name
    → reading_in (state_of new).map other ≡ reading_in (state_of old).map other

-- the setting of the name reads as this value, stored
abbrev pub ReadsStored : List Setting → List ℕ → ℕ → Device → Type 0
ReadsStored settings name value device =
    (setting : Setting) × IsNamed settings name setting
    × (reading_in (state_of device).map setting ≡ Stored value)

-- each setting reads as before
abbrev pub KeepsAll : List Setting → Device → Device → Type 0
KeepsAll settings old new = (setting : Setting) → Contains settings setting
    → reading_in (state_of new).map setting ≡ reading_in (state_of old).map setting

-- A setting that was set reads as that value, and no other reading changes, whether the
-- store moved or not.
abbrev pub SetIsRead : Type 0
SetIsRead =
    (settings : List Setting) → IsSchema settings
    → (old new : Device) (name : List ℕ) (value : ℕ) (written : Written)
    → Sets settings old name value (Ok written) new
    → ReadsStored settings name value new × KeepsOthers settings name old new

-- After a cut it reads as that value or as before, and no other reading changes.
abbrev pub CutKeepsOthers : Type 0
CutKeepsOthers =
    (settings : List Setting) → IsSchema settings → (old new : Device) → IsFormed old
    → (name : List ℕ) (value : ℕ)
    → Sets settings old name value (Err (set.Store write.Cut)) new
    → KeepsAll settings old new
    ⊎ (ReadsStored settings name value new × KeepsOthers settings name old new)

-- Every other refusal leaves the device as it was.
abbrev pub RefusalsChangeNothing : Type 0
RefusalsChangeNothing =
    (settings : List Setting) (old new : Device) (name : List ℕ) (value : ℕ) (fault : SetFault)
    → fault ≢ set.Store write.Cut → Sets settings old name value (Err fault) new → new ≡ old

-- A name has one setting at most.
abbrev pub NamesAreApart : Type 0
NamesAreApart =
    (settings : List Setting) → IsSchema settings → (name : List ℕ) (one other : Setting)
    → IsNamed settings name one → IsNamed settings name other → one ≡ other

-- A table is one schema at most.
abbrev pub TablesSpellOnce : Type 0
TablesSpellOnce = (members : Members) (one other : Schema)
    → GivesSchema members (Ok one) → GivesSchema members (Ok other) → one ≡ other

-- A table that is a schema has no first fault, so only want of memory can refuse it.
abbrev pub SchemasAreAccepted : Type 0
SchemasAreAccepted = (members : Members) (schema : Schema) (why : SchemaFault)
    → why ≢ refusal.Memory → GivesSchema members (Ok schema) → ¬ GivesSchema members (Err why)

-- A table has one first fault at most.
abbrev pub TablesHaveOneFault : Type 0
TablesHaveOneFault = (members : Members) → HaveRisingKeys (entries_of members)
    → (one other : SchemaFault) → one ≢ refusal.Memory → other ≢ refusal.Memory
    → GivesSchema members (Err one) → GivesSchema members (Err other) → one ≡ other

-- Every table is a schema or has a first fault; the names of a table rise.
abbrev pub EachTableIsJudged : Type 0
EachTableIsJudged = (members : Members) → HaveRisingKeys (entries_of members)
    → ((schema : Schema) × GivesSchema members (Ok schema))
    ⊎ ((why : SchemaFault) × (why ≢ refusal.Memory) × GivesSchema members (Err why))

-- ---- stale entries

-- The stale entries that are told are rising, each is one, and each that is one is among them.
pub record IsStaleExact (settings : List Setting) (stored : Map) : Type 0 where
  pub rising : IsStrictlySortedBy nat_cmp
      (map (λ (stale : Stale). stale.entry) (stale_in stored settings))
  pub each : All (IsStale settings stored) (stale_in stored settings)
  pub all : (stale : Stale) → IsStale settings stored stale
      → Contains (stale_in stored settings) stale

abbrev pub StaleIsExact : Type 0
StaleIsExact = (settings : List Setting) (stored : Map) → IsStaleExact settings stored

-- ---- what is listed

-- What is listed rises by address, so each is listed once; what is said of each is so; and each
-- that has a value or a setting is listed.
pub record IsListedExact (settings : List Setting) (stored : Map) : Type 0 where
  pub rising : IsStrictlySortedBy nat_cmp
      (map (λ (listed : Listed). listed.address) (listed_in settings stored))
  pub each : All (IsListedSo settings stored) (listed_in settings stored)
  pub all : (address : ℕ) → IsToldOf settings stored address
      → (listed : Listed) × (listed.address ≡ address) × Contains (listed_in settings stored) listed

abbrev pub ListedIsExact : Type 0
ListedIsExact = (settings : List Setting) (stored : Map) → IsListedExact settings stored

-- ---- a store that was tidied

-- Each setting reads as before, whatever tidying answers.
abbrev pub TidyKeepsReadings : Type 0
TidyKeepsReadings =
    (schema : Schema) (old new : Device) (answer : Result ℕ TidyFault) → IsFormed old
    → Tidies schema old answer new → KeepsAll schema.settings old new

-- Each address has what it had, but some that no setting and no record has have nothing now,
-- whatever tidying answers.
abbrev pub TidyTakesTheUnnamed : Type 0
TidyTakesTheUnnamed =
    (schema : Schema) (old new : Device) (answer : Result ℕ TidyFault) → IsFormed old
    → Tidies schema old answer new → (address : ℕ)
    → ((state_of new).map address ≡ (state_of old).map address)
    ⊎ ((is_named schema address ≡ false) × ((state_of new).map address ≡ None))

-- Tidied to the end, a store has the values of the addresses of settings and records, and no others.
abbrev pub TidyLeavesTheNamed : Type 0
TidyLeavesTheNamed =
    (schema : Schema) (old new : Device) (count : ℕ) → Tidies schema old (Ok count) new
    → (address : ℕ) → (state_of new).map address ≡ kept_map schema (state_of old).map address

-- Its state is what those forgettings make of the state before: so far used, of this generation,
-- and so many pages waiting.
abbrev pub TidyLeavesThisState : Type 0
TidyLeavesThisState =
    (schema : Schema) (old new : Device) (count : ℕ) → Tidies schema old (Ok count) new
    → state_of new
    ≡ after_forgettings old.size (unnamed_in schema (state_of old).map) (state_of old)

-- It came to that by as many forgettings as the answer says, each of one that no setting has.
abbrev pub TidyIsARun : Type 0
TidyIsARun =
    (schema : Schema) (old new : Device) (count : ℕ) → Tidies schema old (Ok count) new
    → (calls : List Call) × IsWholeRun calls old new
    × (flat_map changes_of_call calls ≡ map Forget (unnamed_in schema (state_of old).map))
    × (length calls ≡ count)

-- Its steps are those of these forgettings: all were taken, or power was cut in one; where it is
-- spent, those of a front were.
abbrev pub TidyTakesItsSteps : Type 0
TidyTakesItsSteps =
    (schema : Schema) (old new : Device)
    → let all : List ℕ = unnamed_in schema (state_of old).map in
    ((count : ℕ) → Tidies schema old (Ok count) new
    → Completes (steps_of_forgetting all old) old new)
    × (Tidies schema old (Err tidy.Cut) new → IsCutAmong (steps_of_forgetting all old) old new)
    × (Tidies schema old (Err tidy.Spent) new
    → (front rest : List ℕ) × (all ≡ front ++ rest)
    × Completes (steps_of_forgetting front old) old new)

-- It is spent exactly where one of the forgettings is.
abbrev pub TidyIsSpent : Type 0
TidyIsSpent = (schema : Schema) (old new : Device)
    → (Tidies schema old (Err tidy.Spent) new
    → IsSpentAmong old.size (unnamed_in schema (state_of old).map) (state_of old))
    × ((count : ℕ) → Tidies schema old (Ok count) new
    → ¬ IsSpentAmong old.size (unnamed_in schema (state_of old).map) (state_of old))
