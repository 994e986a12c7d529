use Rattle.std.proofs.Common.{◌⊎◌, ℕ, List, Err, inl, inr, ap, rules}
use Rattle.ee_flash.specs.Device.{Device, IsFormed}
use Rattle.ee_pages.specs.Meaning.{Put}
use Rattle.ee_core.specs.declared.variables.WriteFault.TheVariants as write
use Rattle.ee_settings.specs.Calls.{Sets}
use Rattle.ee_settings.specs.Laws.{KeepsAll, KeepsOthers, ReadsStored}
use Rattle.ee_settings.specs.Setting.{IsSchema, Setting, reading_in}
use Rattle.ee_settings.specs.declared.fault.SetFault.TheVariants as set
use Rattle.ee_core.proofs.Public.{cut_map}
use Rattle.ee_settings.proofs.Readings.{addresses_apart, other_read, stored_read}
use Rattle.ee_settings.proofs.laws.cut_keeps_others.Goals as goal

after_cut : (settings : List Setting) → IsSchema settings → (old new : Device) → IsFormed old
    → (name : List ℕ) (value : ℕ) → Sets settings old name value (Err (set.Store write.Cut)) new
    → KeepsAll settings old new
    ⊎ (ReadsStored settings name value new × KeepsOthers settings name old new)
after_cut settings schema old new formed name value w =
    elim (cut_map old new (Put w.0.numbers.address value) w.3) [
      | inl e ↦ inl (λ setting inside. ap (λ map. reading_in map setting) e)
      | inr e ↦ inr (
        (w.0, w.1, stored_read w.0 value _ _ w.2 e),
        λ other inside ne. other_read w.0 other value _ _
            (addresses_apart settings schema.addresses name w.0 other w.1 inside ne) e,
      )
    ]

pub returns : goal.returns
returns c = search (rules, after_cut)
