-- Why a file isn't replaced, and what is told of an image or a dump that wasn't written.
use Rattle.std.specs.declared.io.ErrorKind.{ErrorKind}
use Rattle.std.specs.declared.io.ErrorKind.TheVariants.{OutOfMemory}
use Rattle.ee_interface.specs.declared.fault.Fault.{Fault}
use Rattle.ee_interface.specs.declared.fault.Fault.TheVariants.{CannotWriteDump, CannotWriteImage, ImageChanged, Memory}
use Rattle.ee_program.specs.declared.files.saving.SaveFault.{SaveFault}
use Rattle.ee_program.specs.declared.files.saving.SaveFault.TheVariants as save

-- what an error of the system is to a saving: want of memory is told apart
abbrev pub save_fault_of_kind : ErrorKind → SaveFault
save_fault_of_kind OutOfMemory = save.Memory
save_fault_of_kind kind = save.Failed

-- of an image
abbrev pub fault_of_save : SaveFault → Fault
fault_of_save save.Changed = ImageChanged
fault_of_save save.Failed = CannotWriteImage
fault_of_save save.Memory = Memory

-- of a dump, whose file isn't read
abbrev pub fault_of_dump_file : SaveFault → Fault
fault_of_dump_file save.Changed = CannotWriteDump
fault_of_dump_file save.Failed = CannotWriteDump
fault_of_dump_file save.Memory = Memory
