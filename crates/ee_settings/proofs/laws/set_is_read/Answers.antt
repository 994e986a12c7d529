use Rattle.std.proofs.Common.{ℕ, List, Ok, rules}
use Rattle.ee_flash.specs.Device.{Device}
use Rattle.ee_core.specs.declared.variables.Written.{Written}
use Rattle.ee_settings.specs.Calls.{Sets}
use Rattle.ee_settings.specs.Laws.{KeepsOthers, ReadsStored}
use Rattle.ee_settings.specs.Setting.{IsSchema, Setting}
use Rattle.ee_settings.proofs.Readings.{addresses_apart, other_read, stored_read, written_map}
use Rattle.ee_settings.proofs.laws.set_is_read.Goals as goal

after_set : (settings : List Setting) → IsSchema settings
    → (old new : Device) (name : List ℕ) (value : ℕ) (written : Written)
    → Sets settings old name value (Ok written) new
    → ReadsStored settings name value new × KeepsOthers settings name old new
after_set settings schema old new name value written w =
    let e = written_map old new w.0.numbers.address value written w.3 in (
      (w.0, w.1, stored_read w.0 value _ _ w.2 e),
      λ other inside ne. other_read w.0 other value _ _
          (addresses_apart settings schema.addresses name w.0 other w.1 inside ne) e,
    )

pub returns : goal.returns
returns c = search (rules, after_set)
