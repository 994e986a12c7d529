use Rattle.std.proofs.Common.{◌<◌, ◌^◌}
use Rattle.ee_core.specs.State.{state_of}
use Rattle.ee_records.specs.Calls.{AreChanged}
use Rattle.ee_records.specs.Steps.{AreUnchanged}
use Rattle.ee_records.proofs.record.Record.changed_turns.Given as goal

abbrev pub invariant-words : goal.invariant-words
invariant-words g l = record {
  few : l.turned < 2 ^ 16;
  unchanged : AreUnchanged l.word (state_of (g.V.Variables.device l.store)).map l.self.base l.bytes
      l.turns l.turned;
  changed : AreChanged l.word (state_of (g.V.Variables.device l.store)).map l.self.base l.bytes
      l.turns l.turned;
}
