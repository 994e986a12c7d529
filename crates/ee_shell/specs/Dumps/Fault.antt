-- Why bytes are no dump of a device, and why a device has none.
use Rattle.std.specs.Prelude.{◌≡◌, ◌≢◌, ℕ, List, length}
use Rattle.ee_flash.specs.Size.{Size}
use Rattle.ee_flash.specs.Device.{Device}
use Rattle.ee_shell.specs.Dumps.Dump.{IsFirstTorn, IsWholePage}
use Rattle.ee_shell.specs.Dumps.Places.{IsFirstUncoded}
use Rattle.ee_interface.specs.CommandLine.Form.{dump_length}
use Rattle.ee_shell.specs.Dumps.Pair.{IsFirstLowPair}
use Rattle.ee_interface.specs.declared.command_line.form.Form.{Form}
use Rattle.ee_interface.specs.declared.command_line.form.Form.TheVariants.{Words, Pairs, Coded}
use Rattle.ee_shell.specs.declared.dumps.fault.DumpFault.{DumpFault}
use Rattle.ee_shell.specs.declared.dumps.fault.DumpFault.TheVariants.{Length, LowPair, Memory}
use Rattle.ee_shell.specs.declared.dumps.fault.WriteFault.{WriteFault}
use Rattle.ee_shell.specs.declared.dumps.fault.WriteFault.TheVariants.{Memory as NoMemory, TornWord, Uncoded}

-- a dump of pairs has the length of its size, and this is the first that sums to less than all ones
abbrev pub HasLowPair : Form → Size → List ℕ → ℕ → ℕ → Type 0
HasLowPair Words size dump page at = ⊥
HasLowPair Coded size dump page at = ⊥
HasLowPair Pairs size dump page at =
    (length dump ≡ dump_length Pairs size) × IsFirstLowPair size dump page at

-- why bytes are not read as a dump of this size
abbrev pub IsDumpFault : Form → Size → List ℕ → DumpFault → Type 0
IsDumpFault form size dump Length = length dump ≢ dump_length form size
IsDumpFault form size dump (LowPair page at) = HasLowPair form size dump page at
IsDumpFault form size dump Memory = length dump ≡ dump_length form size

-- where a part has coded words, this is the first number that has none
abbrev pub HasUncoded : Form → Device → ℕ → ℕ → Type 0
HasUncoded Words device page at = ⊥
HasUncoded Pairs device page at = ⊥
HasUncoded Coded device page at = IsFirstUncoded device page at

-- why no dump of this device is written
abbrev pub IsWriteFault : Form → Device → WriteFault → Type 0
IsWriteFault form device (TornWord page at) = IsFirstTorn device page at
IsWriteFault form device (Uncoded page at) =
    ((k : ℕ) → IsWholePage device k) × HasUncoded form device page at
IsWriteFault form device NoMemory = Unit {0}
