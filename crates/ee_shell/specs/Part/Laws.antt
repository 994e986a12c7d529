-- What holds of every image and every dump.
use Rattle.std.specs.Prelude.{◌≡◌, ℕ, Bool, List}
use Rattle.ee_flash.specs.Size.{Size}
use Rattle.ee_flash.specs.Device.{Device}
use Rattle.ee_shell.specs.Dumps.Dump.{IsWholePage}
use Rattle.ee_shell.specs.Dumps.Laws.{unworn_device}
use Rattle.ee_shell.specs.Dumps.Kind.{IsOfKind}
use Rattle.ee_shell.specs.Dumps.Places.{IsInShape}
use Rattle.ee_interface.specs.declared.command_line.form.Form.{Form}
use Rattle.ee_interface.specs.declared.command_line.form.Form.TheVariants.{Words}
use Rattle.ee_image_store.specs.Opening.{SpellsDevice}
use Rattle.ee_interface.specs.declared.fault.Fault.{Fault}
use Rattle.ee_interface.specs.declared.fault.Fault.TheVariants.{Memory}
use Rattle.ee_shell.specs.Part.Faults.{IsImportFault}
use Rattle.ee_shell.specs.Part.Hex.{IsHexExported, IsHexImportFault, IsHexImported}
use Rattle.ee_shell.specs.Part.Moving.{IsExported, IsImported}

-- where the dump of an image was exported, its import is refused for want of memory alone, if no
-- word of the image tells another shape and no mark another kind, and makes the image of the same
-- device, unworn
abbrev pub ImportOfExport : Type 0
ImportOfExport =
    (form : Form) (image dump : List ℕ) (device : Device) → SpellsDevice image device
    → IsExported form image dump
    → (IsInShape device → IsOfKind form device.size dump → (fault : Fault)
    → IsImportFault form device.size dump fault
    → fault ≡ Memory)
    × ((other : List ℕ) → IsImported form device.size dump other
    → SpellsDevice other (unworn_device device))

-- the image that a dump makes is exported as that dump
abbrev pub ExportOfImport : Type 0
ExportOfImport =
    (image dump : List ℕ) (size : Size) → IsImported Words size dump image
    → IsExported Words image dump × ((other : List ℕ) → IsExported Words image other → other ≡ dump)

-- and so it is of each form, where no word of it is torn
abbrev pub TornExportOfImport : Type 0
TornExportOfImport =
    (form : Form) (image dump : List ℕ) (size : Size)
    → (imported : IsImported form size dump image)
    → (((page : ℕ) → IsWholePage imported.device page) → IsExported form image dump)
    × ((other : List ℕ) → IsExported form image other → other ≡ dump)

-- and so it is by Intel HEX, from the address on that it was exported at, with the erased words or
-- without
abbrev pub HexImportOfExport : Type 0
HexImportOfExport =
    (fill : Bool) (form : Form) (image hex : List ℕ) (base : ℕ) (device : Device)
    → SpellsDevice image device → (is : IsHexExported fill form image base hex)
    → (IsInShape device → IsOfKind form device.size is.dump → (fault : Fault)
    → IsHexImportFault form device.size base hex fault
    → fault ≡ Memory)
    × ((other : List ℕ) → IsHexImported form device.size base hex other
    → SpellsDevice other (unworn_device device))
