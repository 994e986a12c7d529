-- The faults of images and of scripts, as a replay names them.
use Rattle.ee_image.specs.declared.fault.ImageFault.{ImageFault}
use Rattle.ee_image.specs.declared.fault.ImageFault.TheVariants as image
use Rattle.ee_interface.specs.declared.script.session.ScriptFault.{ScriptFault}
use Rattle.ee_interface.specs.declared.script.session.ScriptFault.TheVariants as script
use Rattle.ee_interface.specs.declared.script.session.StreamFault.{StreamFault}
use Rattle.ee_interface.specs.declared.script.session.StreamFault.TheVariants as stream
use Rattle.ee_interface.specs.declared.replay_fault.ReplayFault.{ReplayFault}
use Rattle.ee_interface.specs.declared.replay_fault.ReplayFault.TheVariants.{Image, Script, Memory, Read}

-- an image's fault, as a replay names it
abbrev pub of_image : ImageFault → ReplayFault
of_image image.TooLong = Image image.TooLong
of_image (image.BadLine n) = Image (image.BadLine n)
of_image image.BadShape = Image image.BadShape
of_image image.Memory = Memory

-- a script's fault, as a replay names it
abbrev pub same_cause : ScriptFault → ReplayFault
same_cause (script.BadLine n) = Script n
same_cause script.Memory = Memory

-- the fault of a script that a reader gives
abbrev pub of_stream : StreamFault → ReplayFault
of_stream stream.Read = Read
of_stream (stream.Script fault) = same_cause fault
