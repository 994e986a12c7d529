use Rattle.std.proofs.Common.{◌≡◌, ◌<◌, ◌-◌, nat_cmp}
use Rattle.std.specs.BTreeMap.{get}
use Rattle.ee_pages.specs.LiveOrder.{above_of}
use Rattle.ee_core.specs.CallSteps.{map_to}
use Rattle.ee_core.specs.State.{state_of}
use Rattle.ee_settings.proofs.stale.stored_values.Given as goal

-- the values so far are there
abbrev pub invariant-stored : goal.invariant-stored
invariant-stored g l = record {
  below : above_of l.after < 65535;
  so_far : get nat_cmp l.stored
      ≡ map_to (state_of (g.V.Variables.device l.store)).map (above_of l.after);
}

abbrev pub decreases-stored : goal.decreases-stored
decreases-stored g l = 65535 - above_of l.after
