-- Entries of a schema, and those whose stored value isn't in their range.
use Rattle.std.specs.Prelude.{◌≡◌, ◌+◌, ℕ, zero, suc, List, [], ◌∷◌, ◌++◌, if◌then◌else◌, Option, Some, None, slice_get}
use Rattle.ee_flash.specs.Device.{Device, IsOff, IsOn}
use Rattle.ee_pages.specs.Meaning.{Map, Put, map_after}
use Rattle.ee_settings.specs.Setting.{IsInRange, Setting, is_in_range}
use Rattle.ee_settings.specs.declared.fault.StaleFault.{StaleFault}
use Rattle.ee_settings.specs.declared.fault.StaleFault.TheVariants as fault
use Rattle.ee_settings.specs.declared.numbers.Numbers.{Numbers}
use Rattle.ee_settings.specs.declared.stale.Stale.{Stale}

-- the setting that is the entry of this number, from 1
abbrev pub entry_of : List Setting → ℕ → Option Setting
entry_of settings zero = None
entry_of settings (suc index) = slice_get settings index

-- the name of that entry
abbrev pub IsNameOf : List Setting → ℕ → List ℕ → Type 0
IsNameOf settings entry name =
    (setting : Setting) × (entry_of settings entry ≡ Some setting) × (name ≡ setting.name)

-- an entry is stale if the value that its address has is not in its range
abbrev pub stale_at : ℕ → Numbers → Option ℕ → List Stale
stale_at entry numbers None = []
stale_at entry numbers (Some value) =
    if is_in_range numbers value then [] else record { entry = entry; value = value } ∷ []

-- those of the settings that are stale, with their values, where the first setting is the
-- entry of this number
abbrev pub stale_from : ℕ → Map → List Setting → List Stale
stale_from entry stored [] = []
stale_from entry stored (setting ∷ settings) =
    stale_at entry setting.numbers (stored setting.numbers.address)
    ++ stale_from (entry + 1) stored settings

-- all of them, by rising entry
abbrev pub stale_in : Map → List Setting → List Stale
stale_in stored settings = stale_from 1 stored settings

-- the address of the entry's setting has this value, which is not in the setting's range
abbrev pub IsStale : List Setting → Map → Stale → Type 0
IsStale settings stored stale =
    (setting : Setting) × (entry_of settings stale.entry ≡ Some setting)
    × (stored setting.numbers.address ≡ Some stale.value) × ¬ IsInRange setting.numbers stale.value

-- why none are told: the device is off; or memory ran out
abbrev pub IsStaleFault : Device → StaleFault → Type 0
IsStaleFault device fault.Off = IsOff device
IsStaleFault device fault.Memory = IsOn device

-- ---- for the functions within

-- a map with these addresses put too, each with its value
abbrev pub with_found : List (ℕ × ℕ) → Map → Map
with_found [] stored = stored
with_found (found ∷ more) stored = with_found more (map_after (Put found.0 found.1) stored)
