-- What moves between images and parts by Intel HEX, and why nothing does.
use Rattle.std.specs.Prelude.{◌≡◌, ◌⊎◌, ◌≤◌, ◌+◌, ◌^◌, ℕ, Bool, true, false, List}
use Rattle.ee_flash.specs.Size.{Size}
use Rattle.ee_flash.specs.Device.{Device}
use Rattle.ee_interface.specs.CommandLine.Form.{dump_length, word_length}
use Rattle.ee_interface.specs.declared.command_line.form.Form.{Form}
use Rattle.ee_shell.specs.Dumps.intel_hex.Fault.{IsHexFault}
use Rattle.ee_shell.specs.Dumps.intel_hex.Text.{IsHexOf}
use Rattle.ee_shell.specs.Dumps.intel_hex.Written.{hex_text, sparse_text}
use Rattle.ee_shell.specs.declared.dumps.intel_hex.fault.HexFault.{HexFault}
use Rattle.ee_shell.specs.declared.dumps.intel_hex.fault.HexFault.TheVariants as hex
use Rattle.ee_image_store.specs.Opening.{SpellsDevice}
use Rattle.ee_interface.specs.declared.fault.Fault.{Fault}
use Rattle.ee_interface.specs.declared.fault.Fault.TheVariants.{BadLine, Base, Memory}
use Rattle.ee_interface.specs.declared.fault.File.TheVariants.{Dump}
use Rattle.ee_image_store.specs.FileFaults.{IsReadingFault}
use Rattle.ee_shell.specs.Part.Faults.{IsDeviceFault, IsImportFault}
use Rattle.ee_shell.specs.Part.Moving.{IsExported, IsImported}

-- a part of this size, whose first byte has this address, has addresses below 2^32 alone
abbrev pub PartFits : Form → ℕ → Size → Type 0
PartFits form base size = base + dump_length form size ≤ 2 ^ 32

-- the image of the device whose dump a text says, from this address on
pub record IsHexImported (form : Form) (size : Size) (base : ℕ) (hex image : List ℕ) : Type 0 where
  pub dump : List ℕ
  pub fits : PartFits form base size
  pub says : IsHexOf hex base (dump_length form size) dump
  pub imported : IsImported form size dump image

-- the text of a dump from this address on, filled with the erased words or without them
abbrev pub dump_text : Bool → Form → ℕ → List ℕ → List ℕ
dump_text true form base dump = hex_text base dump
dump_text false form base dump = sparse_text (word_length form) base dump

-- the text of the dump of the device that an image spells, from this address on
pub record IsHexExported (fill : Bool) (form : Form) (image : List ℕ) (base : ℕ) (hex : List ℕ)
    : Type 0 where
  pub dump : List ℕ
  pub exported : IsExported form image dump
  pub fits : PartFits form base exported.device.size
  pub hex_is : hex ≡ dump_text fill form base dump

-- ---- why nothing moves

abbrev pub fault_of_hex : HexFault → Fault
fault_of_hex (hex.BadLine line) = BadLine Dump line
fault_of_hex hex.Memory = Memory

-- why a text says no dump of a part of this size at this address
pub record IsHexTextFault (form : Form) (size : Size) (base : ℕ) (text : List ℕ) (fault : Fault)
    : Type 0 where
  pub fits : PartFits form base size
  pub cause : HexFault
  pub applies : IsHexFault text base (dump_length form size) cause
  pub fault_is : fault ≡ fault_of_hex cause

-- why the bytes that a text says are no dump of such a part
pub record IsHexDumpFault (form : Form) (size : Size) (base : ℕ) (text : List ℕ) (fault : Fault)
    : Type 0 where
  pub dump : List ℕ
  pub fits : PartFits form base size
  pub says : IsHexOf text base (dump_length form size) dump
  pub wrong : IsImportFault form size dump fault

-- why there is no image from a text: the part ends behind the last address, the text is bad, or
-- what it says is no dump
abbrev pub IsHexImportFault : Form → Size → ℕ → List ℕ → Fault → Type 0
IsHexImportFault form size base text fault =
    ((¬ PartFits form base size) × (fault ≡ Base)) ⊎ IsHexTextFault form size base text fault
    ⊎ IsHexDumpFault form size base text fault

-- why a device's dump is not told from this address on: it ends behind the last one, or there is
-- none
abbrev pub IsPlacedFault : Form → Device → ℕ → Fault → Type 0
IsPlacedFault form device base fault =
    ((¬ PartFits form base device.size) × (fault ≡ Base))
    ⊎ (PartFits form base device.size × IsDeviceFault form device fault)

-- why there is no text from an image: it spells no device, or one whose dump is not told
-- from this address on
abbrev pub IsHexExportFault : Form → List ℕ → ℕ → Fault → Type 0
IsHexExportFault form image base fault =
    IsReadingFault image fault
    ⊎ ((device : Device) × SpellsDevice image device × IsPlacedFault form device base fault)
