-- What a store keeps in memory beside its device.
use Rattle.std.specs.Prelude.{List}
use Rattle.ee_flash.specs.Device.{Device, IsOn}
use Rattle.ee_flash.specs.declared.word.Word.{Word}
use Rattle.ee_pages.specs.Layout.{IsLayout}
use Rattle.ee_core.specs.Finished.{IsStore}
use Rattle.ee_core.specs.Lookups.{slots_by}
use Rattle.ee_core.specs.declared.known.Known.{Known}

-- A store of this device knows this of it. While it is on, the layout is its own, and the
-- look-up finds its values.
pub record Knows {L : Type 0} (finds : L → List Word → Type 0) (device : Device) (known : Known L)
    : Type 0 where
  pub store : IsStore device
  pub layout : IsOn device → IsLayout device known.layout
  pub fits : IsOn device → finds known.lookup (slots_by known.layout device)
