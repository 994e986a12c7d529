use Rattle.std.proofs.Common.{◌∙◌, ◌+◌, ◌-◌, ◌<◌, ℕ, List, Err, arith, length, sym}
use Rattle.std.proofs.lemmas.Result.{err_from_is_err_and}
use Rattle.ee_core.specs.State.{state_of}
use Rattle.ee_records.proofs.Places.{below_two, of_record, words_within}
use Rattle.ee_records.proofs.Puts.{ends_later, have_skipped, no_write, one_ends, put_more, turned_write}
use Rattle.ee_records.specs.Record.{IsOf, word_turn}
use Rattle.ee_records.proofs.record.Record.put_words.Goals as goal
use Rattle.ee_records.proofs.record.Record.put_words.Goals.{then-word_turn-eq1+in_ok-put_value, else-word_turn-eq1}

pub returns-in_err-put_value-clause-ends : goal.returns-in_err-put_value-clause-ends
returns-in_err-put_value-clause-ends g c =
    let before = c.words.invariant in
    let base : ℕ = c.args.self.now.base in
    let room : ℕ = c.args.self.now.words in
    let word : ℕ = c.words.word in
    let low : word < room + 1 =
    omega (arith, c.words-test.true, c.words_with-word-end.ensures, words_within (length c.args.bytes.now) room c.requires.fits) in
    let of : IsOf base room c.place-address.result =
    rw (c.place-address.ensures, c.word_turn-then-word_turn-eq1.ensures.turn)
    (of_record base room word (1 - word_turn c.args.turns word) low
    (below_two (word_turn c.args.turns word))) in
    let p = err_from_is_err_and c.from_residual.result c.from_residual.ensures.1 in
    rw (p.1, p.2)
    (ends_later {T = ℕ} base room (Err c.in_err-put_value.field-0.0) _ _ _ before.goes
    (one_ends {T = ℕ} base room (Err c.in_err-put_value.field-0.0) _ _ _ _ of
    c.in_err-put_value.ensures))

pub words-preserved : goal.words-preserved
words-preserved g c =
    let before = c.words.invariant in
    let base : ℕ = c.args.self.now.base in
    let room : ℕ = c.args.self.now.words in
    let bytes : List ℕ = c.args.bytes.now in
    let word : ℕ = c.words.word in
    elim c.if-word_turn-eq1.branch [
      | then-word_turn-eq1+in_ok-put_value w ↦
          let low : word < room + 1 =
          omega (arith, c.words-test.true, c.words_with-word-end.ensures, words_within (length bytes) room c.requires.fits) in
          let done =
          put_more _ _ _ base room c.args.turns c.args.turned word _ _ bytes low
          (rw w.word_turn-then-word_turn-eq1.ensures.turn at w.place-address.ensures)
          w.record_word.ensures before.goes before.kept before.there w.in_ok-put_value.ensures in
          rw w.store-is (record {
            goes = done.0;
            kept = done.1;
            there = done.2;
            paid = turned_write c.args.turned word _ _ _
                (sym c.word_turn.ensures.turn ∙ w.if-word_turn-eq1.true) before.paid done.3;
          })
      | else-word_turn-eq1 w ↦
          rw w.store-is (record {
            goes = before.goes;
            kept = before.kept;
            there = have_skipped base c.args.turns c.args.turned word _ bytes
                (state_of (g.V.Variables.device c.words.store)).map before.there
                c.word_turn.ensures.turn w.if-word_turn-eq1.false;
            paid = no_write c.args.turned word _ _
                (λ e. w.if-word_turn-eq1.false (c.word_turn.ensures.turn ∙ e)) before.paid;
          })
    ]
