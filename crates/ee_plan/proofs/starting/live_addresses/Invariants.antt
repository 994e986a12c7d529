use Rattle.std.proofs.Common.{◌<◌, ◌-◌}
use Rattle.ee_pages.specs.LiveOrder.{above_of}
use Rattle.ee_core.specs.State.{state_of}
use Rattle.ee_plan.proofs.Gathering.{AreLiveTo}
use Rattle.ee_plan.proofs.starting.live_addresses.Given as goal

-- the live addresses so far are there
abbrev pub invariant-live : goal.invariant-live
invariant-live g l = record {
  below : above_of l.after < 65535;
  so_far : AreLiveTo (state_of (g.V.Variables.device l.store)).map (above_of l.after) l.live.items;
}

abbrev pub decreases-live : goal.decreases-live
decreases-live g l = 65535 - above_of l.after
