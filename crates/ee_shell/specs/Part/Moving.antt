-- What moves between images and parts.
use Rattle.std.specs.Prelude.{ℕ, List}
use Rattle.ee_flash.specs.Size.{Size}
use Rattle.ee_flash.specs.Device.{Device}
use Rattle.ee_shell.specs.Dumps.Dump.{IsDump, IsImport}
use Rattle.ee_shell.specs.Dumps.Places.{IsInShape}
use Rattle.ee_interface.specs.declared.command_line.form.Form.{Form}
use Rattle.ee_image_store.specs.Opening.{SpellsDevice}
use Rattle.ee_shell.specs.Part.Faults.{IsNotToldOther}

-- the image of the device that a dump makes, of which no mark tells another kind and no word another
-- shape
pub record IsImported (form : Form) (size : Size) (dump image : List ℕ) : Type 0 where
  pub kind : IsNotToldOther form size dump
  pub device : Device
  pub made : IsImport form size dump device
  pub in_shape : IsInShape device
  pub spelled : SpellsDevice image device

-- the dump of the device that an image spells
pub record IsExported (form : Form) (image dump : List ℕ) : Type 0 where
  pub device : Device
  pub spelled : SpellsDevice image device
  pub dump_is : IsDump form device dump
