-- The line and the status of each fault.
use Rattle.std.specs.Prelude.{ℕ, List, ◌++◌, codes, decimal}
use Rattle.ee_text.specs.Line.{line_of}
use Rattle.ee_interface.specs.declared.fault.File.{File}
use Rattle.ee_interface.specs.declared.fault.File.TheVariants.{Image, Before, Script, Certificate, Settings, Dump, Values}
use Rattle.ee_interface.specs.declared.fault.Fault.{Fault}
use Rattle.ee_interface.specs.declared.fault.Fault.TheVariants.{CannotRead, TooLong, CannotWriteImage, ImageChanged, CannotWriteDump, CannotWriteOutput, OutputIsWritten, BadLine, BadShape, Unformatted, NoLiveSet, TwoLive, Foreign, SettingsText, BadName, BadField, BadRange, SameAddress, UnknownName, RecordName, OutOfRange, Full, Spent, Absent, HoldsValues, NothingToRescue, NotFitting, WrongStart, NotRising, WrongFrom, NotForced, OtherShape, Backwards, NoSizeEnough, DumpLength, DumpOfWords, DumpOfPairs, DumpOfCoded, LowPair, Misplaced, DumpUnused, DumpNoCrc, DumpFull, TornWord, Uncoded, Base, ValuesText, BadValue, UnknownValue, ValueOutOfRange, FullAt, SpentAt, ValuesDiffer, Memory}
use Rattle.ee_image.specs.declared.fault.ImageFault.{ImageFault}
use Rattle.ee_image.specs.declared.fault.ImageFault.TheVariants as image
use Rattle.ee_pages.specs.declared.find.ScanFault.{ScanFault}
use Rattle.ee_pages.specs.declared.find.ScanFault.TheVariants as scan
use Rattle.ee_interface.specs.declared.script.session.ScriptFault.{ScriptFault}
use Rattle.ee_interface.specs.declared.script.session.ScriptFault.TheVariants as script
use Rattle.ee_check.specs.declared.reading.TextFault.{TextFault}
use Rattle.ee_check.specs.declared.reading.TextFault.TheVariants as text
use Rattle.ee_check.specs.declared.checking.CheckFault.{CheckFault}
use Rattle.ee_check.specs.declared.checking.CheckFault.TheVariants as check
use Rattle.ee_wear.specs.declared.since.SinceFault.{SinceFault}
use Rattle.ee_wear.specs.declared.since.SinceFault.TheVariants as since
use Rattle.ee_interface.specs.declared.command_line.files.ReadFault.{ReadFault}
use Rattle.ee_interface.specs.declared.command_line.files.ReadFault.TheVariants as read
use Rattle.ee_interface.specs.declared.replay_fault.ReplayFault.{ReplayFault}
use Rattle.ee_interface.specs.declared.replay_fault.ReplayFault.TheVariants as replay

abbrev pub file_name : File → List ℕ
file_name Image = codes "image"
file_name Before = codes "before"
file_name Script = codes "script"
file_name Certificate = codes "certificate"
file_name Settings = codes "settings"
file_name Dump = codes "dump"
file_name Values = codes "values"

-- what the line says of the fault, behind `ee: `
abbrev pub cause : Fault → List ℕ
cause (CannotRead file) = codes "cannot read " ++ file_name file
cause (TooLong file) = file_name file ++ codes " too long"
cause CannotWriteImage = codes "cannot write image"
cause ImageChanged = codes "image changed"
cause CannotWriteDump = codes "cannot write dump"
cause CannotWriteOutput = codes "cannot write output"
cause OutputIsWritten = codes "output is the file to write"
cause (BadLine file line) = file_name file ++ codes " line " ++ decimal line
cause (BadShape file) = file_name file ++ codes " shape"
cause Unformatted = codes "image unformatted"
cause NoLiveSet = codes "image no live set"
cause TwoLive = codes "image two live sets"
cause (Foreign page at) = codes "image foreign word " ++ decimal page ++ codes " " ++ decimal at
cause SettingsText = codes "settings text"
cause (BadName entry) = codes "settings entry " ++ decimal entry ++ codes " bad name"
cause (BadField entry) = codes "settings entry " ++ decimal entry ++ codes " bad field"
cause (BadRange entry) = codes "settings entry " ++ decimal entry ++ codes " bad range"
cause (SameAddress entry) = codes "settings entry " ++ decimal entry ++ codes " same address"
cause UnknownName = codes "unknown name"
cause RecordName = codes "name of a record"
cause (OutOfRange min max) = codes "out of range " ++ decimal min ++ codes " " ++ decimal max
cause Full = codes "full"
cause Spent = codes "spent"
cause Absent = codes "absent"
cause HoldsValues = codes "holds values, --force forgets them"
cause NothingToRescue = codes "nothing to rescue"
cause (NotFitting change) = codes "not fitting " ++ decimal change
cause WrongStart = codes "wrong start"
cause (NotRising stretch) = codes "not rising " ++ decimal stretch
cause (WrongFrom stretch) = codes "wrong from " ++ decimal stretch
cause (NotForced stretch) = codes "not forced " ++ decimal stretch
cause OtherShape = codes "other shape"
cause (Backwards page) = codes "wear backwards " ++ decimal page
cause NoSizeEnough = codes "no size is enough"
cause DumpLength = codes "dump length"
cause DumpOfWords = codes "dump of words"
cause DumpOfPairs = codes "dump of pairs"
cause (DumpOfCoded pages words) =
    codes "dump of coded words " ++ decimal pages ++ codes " " ++ decimal words
cause (LowPair page at) = codes "dump pair " ++ decimal page ++ codes " " ++ decimal at
cause (Misplaced page at) = codes "dump shape " ++ decimal page ++ codes " " ++ decimal at
cause DumpUnused = codes "dump no page in use"
cause DumpNoCrc = codes "dump no crc fits"
cause DumpFull = codes "dump full"
cause (TornWord page at) = codes "torn word " ++ decimal page ++ codes " " ++ decimal at
cause (Uncoded page at) = codes "uncoded word " ++ decimal page ++ codes " " ++ decimal at
cause Base = codes "base"
cause ValuesText = codes "values text"
cause (BadValue entry) = codes "values entry " ++ decimal entry ++ codes " bad field"
cause (UnknownValue entry) = codes "values entry " ++ decimal entry ++ codes " unknown name"
cause (ValueOutOfRange entry min max) =
    codes "values entry " ++ decimal entry ++ codes " out of range " ++ decimal min ++ codes " "
    ++ decimal max
cause (FullAt entry) = codes "values entry " ++ decimal entry ++ codes " full"
cause (SpentAt entry) = codes "values entry " ++ decimal entry ++ codes " spent"
cause ValuesDiffer = codes "values differ"
cause Memory = codes "out of memory"

abbrev pub fault_text : Fault → List ℕ
fault_text fault = line_of (codes "ee: " ++ cause fault)

-- 3 for a bad file, 4 for what is refused, 5 for want of memory
abbrev pub status : Fault → ℕ
status OutputIsWritten = 4
status UnknownName = 4
status RecordName = 4
status (OutOfRange min max) = 4
status Full = 4
status Spent = 4
status Absent = 4
status HoldsValues = 4
status NothingToRescue = 4
status (NotFitting change) = 4
status WrongStart = 4
status (NotRising stretch) = 4
status (WrongFrom stretch) = 4
status (NotForced stretch) = 4
status OtherShape = 4
status (Backwards page) = 4
status NoSizeEnough = 4
status DumpFull = 4
status (TornWord page at) = 4
status (Uncoded page at) = 4
status Base = 4
status (UnknownValue entry) = 4
status (ValueOutOfRange entry min max) = 4
status (FullAt entry) = 4
status (SpentAt entry) = 4
status ValuesDiffer = 4
status Memory = 5
status fault = 3

-- the fault of a file that can't be read whole
abbrev pub fault_of_read : File → ReadFault → Fault
fault_of_read file read.Read = CannotRead file
fault_of_read file read.TooLong = TooLong file
fault_of_read file read.Memory = Memory

-- the fault of an image that can't be read as one
abbrev pub fault_of_image : File → ImageFault → Fault
fault_of_image file image.TooLong = TooLong file
fault_of_image file (image.BadLine line) = BadLine file line
fault_of_image file image.BadShape = BadShape file
fault_of_image file image.Memory = Memory

-- the fault of an image that is not legal
abbrev pub fault_of_scan : ScanFault → Fault
fault_of_scan scan.Unformatted = Unformatted
fault_of_scan scan.NoLiveSet = NoLiveSet
fault_of_scan scan.TwoLive = TwoLive
fault_of_scan (scan.Foreign page at) = Foreign page at

-- a replay's fault, under the same cause
abbrev pub fault_of_replay : ReplayFault → Fault
fault_of_replay (replay.Image fault) = fault_of_image Image fault
fault_of_replay (replay.Open fault) = fault_of_scan fault
fault_of_replay (replay.Script line) = BadLine Script line
fault_of_replay replay.Memory = Memory
fault_of_replay replay.Read = CannotRead Script

-- the fault of a text that is no script
abbrev pub fault_of_script : ScriptFault → Fault
fault_of_script (script.BadLine line) = BadLine Script line
fault_of_script script.Memory = Memory

-- the fault of a certificate that can't be read as one
abbrev pub fault_of_certificate : TextFault → Fault
fault_of_certificate (text.BadText line) = BadLine Certificate line
fault_of_certificate text.Memory = Memory

-- the fault of a certificate that the checker refuses
abbrev pub fault_of_check : CheckFault → Fault
fault_of_check check.WrongStart = WrongStart
fault_of_check (check.NotRising stretch) = NotRising stretch
fault_of_check (check.WrongFrom stretch) = WrongFrom stretch
fault_of_check (check.NotForced stretch) = NotForced stretch
fault_of_check check.Memory = Memory

-- the fault of a ledger that is not one since the other
abbrev pub fault_of_since : SinceFault → Fault
fault_of_since since.OtherShape = OtherShape
fault_of_since (since.Backwards page) = Backwards page
fault_of_since since.Memory = Memory
