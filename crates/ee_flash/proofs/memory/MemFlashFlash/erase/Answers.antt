use Rattle.std.proofs.Common.{rules}
use Rattle.ee_flash.proofs.memory.MemFlashFlash.erase.Goals as goal

pub returns-in-None-clause-done : goal.returns-in-None-clause-done
returns-in-None-clause-done g c = search rules

pub returns-in-None-clause-exact : goal.returns-in-None-clause-exact
returns-in-None-clause-exact g c = search rules
