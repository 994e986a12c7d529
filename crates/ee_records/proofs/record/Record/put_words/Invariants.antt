use Rattle.ee_flash.specs.Power.{GoesOn}
use Rattle.ee_core.specs.State.{state_of}
use Rattle.ee_records.specs.Calls.{AreWrites, turning}
use Rattle.ee_records.specs.Steps.{HaveWords, KeepsCounted}
use Rattle.ee_records.proofs.record.Record.put_words.Given as goal

abbrev pub invariant-words : goal.invariant-words
invariant-words g l = record {
  goes : GoesOn (g.V.Variables.device l.initial.store) (g.V.Variables.device l.store);
  kept : KeepsCounted l.self.base l.self.words l.turns
      (state_of (g.V.Variables.device l.initial.store)).map
      (state_of (g.V.Variables.device l.store)).map;
  there : HaveWords l.word (state_of (g.V.Variables.device l.store)).map l.self.base l.bytes l.turns
      l.turned;
  paid : AreWrites (turning l.turned l.word) (g.V.Variables.device l.initial.store)
      (g.V.Variables.device l.store);
}
