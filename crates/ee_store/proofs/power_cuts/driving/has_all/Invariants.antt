use Rattle.std.proofs.Common.{take}
use Rattle.ee_core.specs.Puts.{HasAll}
use Rattle.ee_core.specs.State.{state_of}
use Rattle.ee_store.proofs.power_cuts.driving.has_all.Given as goal

abbrev pub invariant-entries : goal.invariant-entries
invariant-entries g l = HasAll (take l.put-index l.puts) (state_of (g.F.Flash.device l.flash)).map
