use Rattle.std.proofs.Common.{◌+◌, ◌≤◌, ℕ, List, arith, length}
use Rattle.ee_pages.specs.Meaning.{Map}
use Rattle.ee_core.specs.State.{state_of}
use Rattle.ee_records.proofs.Turning.{changed_within, in_place_here, more_changed, more_turned, more_unchanged, not_in_place_here, turned_fits}
use Rattle.ee_records.specs.Record.{words_with}
use Rattle.ee_records.proofs.record.Record.changed_turns.Goals as goal
use Rattle.ee_records.proofs.record.Record.changed_turns.Goals.{then-not-has_value, else-not-has_value}

pub words-preserved : goal.words-preserved
words-preserved g c =
    let before = c.words.invariant in
    let map : Map = (state_of (g.V.Variables.device c.args.store.now)).map in
    let base : ℕ = c.args.self.now.base in
    let turns : ℕ = c.args.turns in
    let bytes : List ℕ = c.args.bytes.now in
    let word : ℕ = c.words.word in
    elim c.if-not-has_value.branch [
      | then-not-has_value w ↦
          let other =
          not_in_place_here map base turns bytes word _ _ _ c.word_turn.ensures.turn
          c.place-address.ensures c.record_word.ensures
          (c.has_value.ensures.no w.if-not-has_value.true) in
          rw w.turned-is (record {
            few = turned_fits c.words.turned word before.few;
            unchanged = more_turned map base turns bytes word c.words.turned before.unchanged;
            changed = more_changed map base turns bytes word c.words.turned before.changed other;
          })
      | else-not-has_value w ↦
          let here =
          in_place_here map base turns bytes word _ _ _ c.word_turn.ensures.turn
          c.place-address.ensures c.record_word.ensures
          (c.has_value.ensures.yes w.if-not-has_value.false) in
          rw w.turned-is (record {
            few = before.few;
            unchanged = more_unchanged map base turns bytes word c.words.turned before.unchanged here;
            changed = changed_within map base turns _ word (word + 1) _ (omega arith)
                before.changed;
          })
    ]

pub returns-clause-changed : goal.returns-clause-changed
returns-clause-changed g c =
    let within : c.words.word ≤ words_with (length c.args.bytes.now) =
    omega (arith, c.words.auto.word-end, c.words_with-word-end.ensures) in
    changed_within (state_of (g.V.Variables.device c.args.store.now)).map c.args.self.now.base
    c.args.turns _ _ _ _ within c.words.invariant.changed
