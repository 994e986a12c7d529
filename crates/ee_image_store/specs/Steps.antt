-- A step of the report machine, between the devices of a store.
use Rattle.std.specs.Prelude.{◌≡◌}
use Rattle.ee_flash.specs.Device.{Device}
use Rattle.ee_core.specs.State.{state_of}
use Rattle.ee_interface.specs.declared.script.command.Command.{Command}
use Rattle.ee_interface.specs.declared.script.answer.Answer.{Answer}
use Rattle.ee_image_store.specs.Erases.{ErasesRise, erases_left_by}
use Rattle.ee_image_store.specs.Machine.{MachineStep}

-- The report machine answers the command so, the device keeps its size, and a move leaves the pages
-- of a set to be erased, any other answer none.
pub record Steps (old : Device) (command : Command) (answer : Answer) (new : Device) : Type 0 where
  pub step : MachineStep old.size (state_of old) command answer (state_of new)
  pub same_size : new.size ≡ old.size
  pub erases : ErasesRise (erases_left_by old.size answer) old new
