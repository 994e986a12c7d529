-- What an import of X-CUBE-EEPROM gives, and why it gives nothing.
use Rattle.std.specs.Prelude.{◌≡◌, ◌≢◌, ◌<◌, ◌⊎◌, ℕ, List, length, true, false}
use Rattle.ee_flash.specs.Size.{Size, slot_count}
use Rattle.ee_flash.specs.Device.{Device, IsFormed}
use Rattle.ee_pages.specs.Meaning.{live_in}
use Rattle.ee_interface.specs.CommandLine.Form.{dump_length}
use Rattle.ee_interface.specs.declared.command_line.form.Form.TheVariants.{Words}
use Rattle.ee_interface.specs.declared.fault.Fault.{Fault}
use Rattle.ee_interface.specs.declared.fault.Fault.TheVariants.{DumpLength, DumpUnused, DumpNoCrc, DumpFull, Memory}
use Rattle.ee_image_store.specs.Opening.{IsStoreLeft}
use Rattle.ee_shell.specs.Dumps.Dump.{IsImport}
use Rattle.ee_shell.specs.Xcube.Pages.{IsUnused, numbers_of}
use Rattle.ee_shell.specs.Xcube.Values.{HoldsValues, lacks_elements, values_of}

-- the bytes are those of this part
abbrev pub IsPartOf : Size → List ℕ → Device → Type 0
IsPartOf size dump part = IsFormed part × IsImport Words size dump part

-- the image of a store that has the values of a part
pub record HasValuesOf (part : Device) (image : List ℕ) : Type 0 where
  pub used : ¬ IsUnused part
  pub has_elements : lacks_elements (numbers_of part) ≡ false
  pub store : Device
  pub left : IsStoreLeft part.size image store
  pub holds : HoldsValues part.size (values_of part) store

-- so it is of the part whose bytes a dump has
abbrev pub IsXcubeImported : Size → List ℕ → List ℕ → Type 0
IsXcubeImported size dump image = (part : Device) × IsPartOf size dump part × HasValuesOf part image

-- why a part is not imported, the first cause that applies: no page is used; something is written,
-- and nothing is an element; more addresses have a value than a store has slots. Or memory ran out.
abbrev pub IsPartFault : Device → Fault → Type 0
IsPartFault part fault =
    (IsUnused part × (fault ≡ DumpUnused))
    ⊎ (¬ IsUnused part × (lacks_elements (numbers_of part) ≡ true) × (fault ≡ DumpNoCrc))
    ⊎ (¬ IsUnused part × (lacks_elements (numbers_of part) ≡ false)
    × slot_count part.size < live_in (values_of part) × (fault ≡ DumpFull))
    ⊎ (fault ≡ Memory)

-- why bytes are not: they are not as many as those of such a part
abbrev pub IsXcubeFault : Size → List ℕ → Fault → Type 0
IsXcubeFault size dump fault =
    ((length dump ≢ dump_length Words size) × (fault ≡ DumpLength))
    ⊎ ((length dump ≡ dump_length Words size) × (fault ≡ Memory))
    ⊎ ((part : Device) × IsPartOf size dump part × IsPartFault part fault)
