-- Why nothing moves.
use Rattle.std.specs.Prelude.{◌≡◌, ◌⊎◌, ℕ, List, length}
use Rattle.ee_flash.specs.Size.{Size}
use Rattle.ee_flash.specs.Device.{Device, IsFormed}
use Rattle.ee_shell.specs.Dumps.Dump.{IsImport}
use Rattle.ee_shell.specs.Dumps.Kind.{IsOfOtherKind}
use Rattle.ee_interface.specs.CommandLine.Form.{dump_length}
use Rattle.ee_shell.specs.declared.dumps.kind.Marking.{Marking}
use Rattle.ee_shell.specs.declared.dumps.kind.Marking.TheVariants as marking
use Rattle.ee_shell.specs.Dumps.Fault.{IsDumpFault, IsWriteFault}
use Rattle.ee_shell.specs.Dumps.Places.{IsFirstMisplaced}
use Rattle.ee_interface.specs.declared.command_line.form.Form.{Form}
use Rattle.ee_shell.specs.declared.dumps.fault.DumpFault.{DumpFault}
use Rattle.ee_shell.specs.declared.dumps.fault.DumpFault.TheVariants as dump
use Rattle.ee_shell.specs.declared.dumps.fault.WriteFault.{WriteFault}
use Rattle.ee_shell.specs.declared.dumps.fault.WriteFault.TheVariants as write
use Rattle.ee_image_store.specs.Opening.{SpellsDevice}
use Rattle.ee_image_store.specs.FileFaults.{IsReadingFault}
use Rattle.ee_interface.specs.declared.fault.Fault.{Fault}
use Rattle.ee_interface.specs.declared.fault.Fault.TheVariants.{DumpLength, DumpOfWords, DumpOfPairs, DumpOfCoded, LowPair, Memory, Misplaced, TornWord, Uncoded}

-- ---- as they are told

abbrev pub fault_of_dump : DumpFault → Fault
fault_of_dump dump.Length = DumpLength
fault_of_dump (dump.LowPair page at) = LowPair page at
fault_of_dump dump.Memory = Memory

abbrev pub fault_of_marking : Marking → Fault
fault_of_marking marking.Words = DumpOfWords
fault_of_marking marking.Pairs = DumpOfPairs
fault_of_marking (marking.Coded pages words) = DumpOfCoded pages words

abbrev pub fault_of_write : WriteFault → Fault
fault_of_write (write.TornWord page at) = TornWord page at
fault_of_write (write.Uncoded page at) = Uncoded page at
fault_of_write write.Memory = Memory

-- ---- the causes

-- bytes as long as those of such a part, a mark of which tells another kind
abbrev pub IsToldOther : Form → Size → List ℕ → Marking → Type 0
IsToldOther form size bytes told =
    (length bytes ≡ dump_length form size) × IsOfOtherKind form size bytes told

abbrev pub IsNotToldOther : Form → Size → List ℕ → Type 0
IsNotToldOther form size bytes = (told : Marking) → ¬ IsToldOther form size bytes told

-- why bytes are a dump of another kind
pub record IsKindFault (form : Form) (size : Size) (bytes : List ℕ) (fault : Fault) : Type 0 where
  pub told : Marking
  pub other : IsToldOther form size bytes told
  pub fault_is : fault ≡ fault_of_marking told

-- why bytes are no dump of a part of this size
pub record IsBytesFault (form : Form) (size : Size) (bytes : List ℕ) (fault : Fault) : Type 0 where
  pub cause : DumpFault
  pub applies : IsDumpFault form size bytes cause
  pub fault_is : fault ≡ fault_of_dump cause

-- why the device that bytes make is of another shape
pub record IsShapeFault (form : Form) (size : Size) (bytes : List ℕ) (fault : Fault) : Type 0 where
  pub device : Device
  pub formed : IsFormed device
  pub made : IsImport form size bytes device
  pub page : ℕ
  pub at : ℕ
  pub first : IsFirstMisplaced device page at
  pub fault_is : fault ≡ Misplaced page at

-- why bytes are not imported as a part of this size: a mark tells another kind; else they are no
-- dump, or one of another shape
abbrev pub IsImportFault : Form → Size → List ℕ → Fault → Type 0
IsImportFault form size bytes fault =
    IsKindFault form size bytes fault
    ⊎ (IsNotToldOther form size bytes
    × (IsBytesFault form size bytes fault ⊎ IsShapeFault form size bytes fault))

-- why a device has no dump of this form
pub record IsDeviceFault (form : Form) (device : Device) (fault : Fault) : Type 0 where
  pub cause : WriteFault
  pub applies : IsWriteFault form device cause
  pub fault_is : fault ≡ fault_of_write cause

-- why there is no dump of an image: it spells no device, or one that has no dump
abbrev pub IsExportFault : Form → List ℕ → Fault → Type 0
IsExportFault form image fault =
    IsReadingFault image fault
    ⊎ ((device : Device) × SpellsDevice image device × IsDeviceFault form device fault)
