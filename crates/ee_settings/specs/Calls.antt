-- What reading and setting by name answer and leave: one relation for each, by cases on the answer.
use Rattle.std.specs.Prelude.{◌≡◌, ℕ, List, Result, Ok, Err}
use Rattle.std.specs.List.{Contains}
use Rattle.ee_flash.specs.Device.{Device, IsOff, IsOn}
use Rattle.ee_core.specs.Calls.{Writes}
use Rattle.ee_core.specs.State.{state_of}
use Rattle.ee_core.specs.declared.variables.Written.{Written}
use Rattle.ee_settings.specs.Setting.{AreProper, IsInRange, Setting, reading_in}
use Rattle.ee_settings.specs.declared.numbers.Numbers.{Numbers}
use Rattle.ee_settings.specs.declared.reading.Reading.{Reading}
use Rattle.ee_settings.specs.declared.fault.GetFault.{GetFault}
use Rattle.ee_settings.specs.declared.fault.GetFault.TheVariants as get
use Rattle.ee_settings.specs.declared.fault.SetFault.{SetFault}
use Rattle.ee_settings.specs.declared.fault.SetFault.TheVariants as set

-- the setting of this name
abbrev pub IsNamed : List Setting → List ℕ → Setting → Type 0
IsNamed settings name setting = Contains settings setting × (setting.name ≡ name)

-- no setting has the name
abbrev pub IsUnknown : List Setting → List ℕ → Type 0
IsUnknown settings name = (setting : Setting) → ¬ IsNamed settings name setting

-- the name's setting has these numbers
abbrev pub IsNumbersOf : List Setting → List ℕ → Numbers → Type 0
IsNumbersOf settings name numbers =
    AreProper numbers × (setting : Setting) × IsNamed settings name setting
    × (setting.numbers ≡ numbers)

-- the reading of the name's setting in the store's map; or there is no such setting;
-- or the device was off
abbrev pub Gets : List Setting → Device → List ℕ → Result Reading GetFault → Type 0
Gets settings device name (Ok reading) =
    IsOn device × (setting : Setting) × IsNamed settings name setting
    × (reading ≡ reading_in (state_of device).map setting)
Gets settings device name (Err get.UnknownName) = IsUnknown settings name
Gets settings device name (Err get.Off) =
    IsOff device × (setting : Setting) × IsNamed settings name setting

-- The value, in the range of the name's setting, is written at its address, with the store's
-- answer; or there is no such setting, or the value isn't in its range, and nothing changed.
abbrev pub Sets : List Setting → Device → List ℕ → ℕ → Result Written SetFault → Device → Type 0
Sets settings old name value (Ok written) new =
    (setting : Setting) × IsNamed settings name setting × IsInRange setting.numbers value
    × Writes old setting.numbers.address value (Ok written) new
Sets settings old name value (Err set.UnknownName) new = IsUnknown settings name × (new ≡ old)
Sets settings old name value (Err (set.OutOfRange min max)) new =
    (setting : Setting) × IsNamed settings name setting × ¬ IsInRange setting.numbers value
    × (min ≡ setting.numbers.min) × (max ≡ setting.numbers.max) × (new ≡ old)
Sets settings old name value (Err (set.Store fault)) new =
    (setting : Setting) × IsNamed settings name setting × IsInRange setting.numbers value
    × Writes old setting.numbers.address value (Err fault) new
