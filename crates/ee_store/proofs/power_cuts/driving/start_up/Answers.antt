use Rattle.std.proofs.Common.{rules}
use Rattle.ee_store.proofs.power_cuts.driving.start_up.Goals as goal

pub returns-in-Ok : goal.returns-in-Ok
returns-in-Ok g c = search rules
