use Rattle.std.proofs.Common.{◌≡◌}
use Rattle.ee_flash.specs.Device.{IsOn}
use Rattle.ee_flash.specs.Power.{GoesOn}
use Rattle.ee_core.specs.State.{state_of}
use Rattle.ee_records.specs.Calls.{AreTrimmed}
use Rattle.ee_records.specs.Steps.{KeepsNeeded}
use Rattle.ee_records.proofs.record.Record.trim.Given as goal

abbrev pub invariant-places : goal.invariant-places
invariant-places g l = record {
  was_on : IsOn (g.V.Variables.device l.initial.store);
  head_is : (state_of (g.V.Variables.device l.initial.store)).map l.self.base ≡ l.head;
  goes : GoesOn (g.V.Variables.device l.initial.store) (g.V.Variables.device l.store);
  kept : KeepsNeeded l.self.base l.self.words l.head
      (state_of (g.V.Variables.device l.initial.store)).map
      (state_of (g.V.Variables.device l.store)).map;
  trimmed : AreTrimmed l.at (state_of (g.V.Variables.device l.store)).map l.self.base l.head;
}
