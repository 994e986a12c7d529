-- What holds of every device and every dump.
use Rattle.std.specs.Prelude.{◌≡◌, ◌⊎◌, ◌<◌, ℕ, List, length}
use Rattle.std.specs.List.{All}
use Rattle.ee_flash.specs.Size.{Size, IsWithinLimits}
use Rattle.ee_flash.specs.Device.{Device, IsFormed, blank_device}
use Rattle.ee_shell.specs.Dumps.Dump.{IsCodable, IsDump, IsFirstTorn, IsImport, IsWholePage}
use Rattle.ee_interface.specs.CommandLine.Form.{dump_length}
use Rattle.ee_shell.specs.Dumps.Fault.{HasLowPair}
use Rattle.ee_interface.specs.declared.command_line.form.Form.{Form}
use Rattle.ee_interface.specs.declared.command_line.form.Form.TheVariants.{Words}

-- the device with these words that was never used
abbrev pub unworn_device : Device → Device
unworn_device device = record (blank_device device.size) { image = device.image }

-- what a device's dump makes is the device, unworn; and it has no pair that sums to less than all
-- ones
abbrev pub ImportOfExport : Type 0
ImportOfExport =
    (form : Form) (device other : Device) (dump : List ℕ) → IsFormed device
    → IsDump form device dump
    → (IsFormed other → IsImport form device.size dump other → other ≡ unworn_device device)
    × ((page at : ℕ) → HasLowPair form device.size dump page at → ⊥)

-- bytes of the right length make a device, and are its dump
abbrev pub ExportOfImport : Type 0
ExportOfImport =
    (size : Size) (dump : List ℕ) → IsWithinLimits size → All (λ byte. byte < 256) dump
    → length dump ≡ dump_length Words size
    → (device : Device) × IsFormed device × IsImport Words size dump device

-- what made a device is its dump, where no word of it is torn
abbrev pub WholeImportIsADump : Type 0
WholeImportIsADump =
    (form : Form) (size : Size) (dump : List ℕ) (device : Device) → IsFormed device
    → IsImport form size dump device → ((page : ℕ) → IsWholePage device page)
    → IsDump form device dump

-- two devices of one size, one dump and one wear are the same, but for power and cuts
abbrev pub OneDevice : Type 0
OneDevice =
    (form : Form) (device other : Device) (dump : List ℕ) → IsFormed device → IsFormed other
    → device.size ≡ other.size → device.wear ≡ other.wear → IsDump form device dump
    → IsDump form other dump
    → other ≡ record device {
      cuts = other.cuts;
      cuts_left = other.cuts_left;
      fuse = other.fuse;
      on = other.on;
    }

-- the dump of a device has the length of its size
abbrev pub DumpsAreRead : Type 0
DumpsAreRead =
    (form : Form) (device : Device) (dump : List ℕ) → IsFormed device → IsDump form device dump
    → length dump ≡ dump_length form device.size

-- a device has a dump or a torn word, where each number of it has a code if the part wants one
abbrev pub DumpOrTorn : Type 0
DumpOrTorn =
    (form : Form) (device : Device) → IsCodable form device
    → ((dump : List ℕ) × IsDump form device dump)
    ⊎ ((page : ℕ) × (at : ℕ) × IsFirstTorn device page at)

-- and not both
abbrev pub OneTorn : Type 0
OneTorn = (form : Form) (device : Device) (page at : ℕ) → IsFirstTorn device page at
    → ((dump : List ℕ) → IsDump form device dump → ⊥)
    × ((other place : ℕ) → IsFirstTorn device other place → (other ≡ page) × (place ≡ at))
