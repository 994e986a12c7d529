use Rattle.std.proofs.Common.{◌≡◌, ◌+◌, ◌∙◌, ◌<◌, ◌≤◌, ◌%◌, ◌/◌, Some, None, ap, sym, arith, length}
use Rattle.std.specs.Prelude.{◌≢◌}
use Rattle.ee_pages.specs.Meaning.{Map}
use Rattle.ee_core.specs.State.{state_of}
use Rattle.ee_records.proofs.Held.{some_same}
use Rattle.ee_records.proofs.Rooms.{missing_word, other_check, read_more}
use Rattle.ee_records.specs.Check.{words_for}
use Rattle.ee_records.specs.Record.{words_with}
use Rattle.ee_records.proofs.record.Record.read.Goals as goal

pub returns-in_default-value_near-3 : goal.returns-in_default-value_near-3
returns-in_default-value_near-3 g c =
    let map : Map = (state_of c.args.store.now).map in
    let is : map c.args.self.now.base ≡ Some c.in-Some.head =
    ap map (sym c.base-2.ensures) ∙ (sym c.value_near.ensures.value ∙ c.in-Some.is) in
    let none : map c.place-address.result ≡ None =
    sym c.value_near-in-words.ensures.value ∙ c.in_default-value_near-3.is in
    let low : c.words.word + 1 < words_with (c.in-Some.head % 65536) =
    omega (arith, c.words-test.true, c.words_for-word-end.ensures) in (
      c.in-Ok.ensures.0,
      missing_word _ _ _ _ _ _ _ c.args.self.now.fits is low
          c.word_turn-in-words.ensures.turn c.place-address.ensures none,
    )

pub words-preserved : goal.words-preserved
words-preserved g c =
    let map : Map = (state_of c.args.store.now).map in
    let there : map c.place-address.result ≡ Some c.in-Some-value_near-2.value =
    sym c.value_near-in-words.ensures.value ∙ c.in-Some-value_near-2.is in
    record {
      read =
          read_more map _ (c.in-Some.head / 65536) (c.in-Some.head % 65536) _ _ _ _ _ _
          c.word_turn-in-words.ensures.turn c.place-address.ensures there
          c.put_bytes.ensures.here c.put_bytes.ensures.before c.words.invariant.read;
      near = c.value_near-in-words.ensures.near;
    }

pub returns-then-check-check_of : goal.returns-then-check-check_of
returns-then-check-check_of g c =
    let map : Map = (state_of c.args.store.now).map in
    let is : map c.args.self.now.base ≡ Some c.in-Some.head =
    ap map (sym c.base-2.ensures) ∙ (sym c.value_near.ensures.value ∙ c.in-Some.is) in
    let there : map c.place-first.result ≡ Some c.in-Some-value_near.check =
    sym c.value_near-2.ensures.value ∙ c.in-Some-value_near.is in
    let other : map c.place-first.result ≢ Some c.check_of.result =
    λ same. c.if-check-check_of.true
    (some_same c.in-Some-value_near.check c.check_of.result (sym there ∙ same)) in
    let fits : c.in-Some.head % 65536 ≤ length c.words.space =
    omega (arith, c.if-length-space.false, c.words.auto.space) in
    let all : words_for (c.in-Some.head % 65536) ≤ c.words.word =
    omega (arith, c.words-test.false, c.words_for-word-end.ensures) in (
      c.in-Ok.ensures.0,
      other_check _ _ _ _ _ _ _ _ _ c.args.self.now.fits is fits all c.words.invariant.read
          c.word_turn.ensures.turn
          c.place-first.ensures c.check_of.ensures other,
    )
