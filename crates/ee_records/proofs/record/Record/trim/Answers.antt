use Rattle.std.proofs.Common.{◌*◌, ◌+◌, ◌<◌, ◌≤◌, ℕ, arith}
use Rattle.std.proofs.lemmas.Result.{err_from_is_err_and}
use Rattle.ee_core.specs.State.{state_of}
use Rattle.ee_records.proofs.Trimmed.{forget_more, trim_keeps, trim_stops, trimmed_skipped}
use Rattle.ee_records.proofs.record.Record.trim.Goals as goal
use Rattle.ee_records.proofs.record.Record.trim.Goals.{then-not-is_needed+in_ok-forget_value, else-not-is_needed}

pub returns-in_err-forget_value : goal.returns-in_err-forget_value
returns-in_err-forget_value g c =
    let before = c.places.invariant in
    let low : c.places.at < 2 * (c.args.self.now.words + 1) =
    omega (arith, c.places-test.true, c.words_with-at-end.ensures, c.capacity.ensures.capacity) in
    let p = err_from_is_err_and c.from_residual.result c.from_residual.ensures.1 in
    rw (p.1, p.2)
    (trim_stops ℕ ℕ _ _ _ _ _ _ _ _ _ c.args.self.now.fits before.was_on before.head_is low
    c.place.ensures (c.is_needed.ensures.no c.if-not-is_needed.true) before.goes before.kept
    c.in_err-forget_value.ensures)

pub places-preserved : goal.places-preserved
places-preserved g c =
    let before = c.places.invariant in
    let low : c.places.at < 2 * (c.args.self.now.words + 1) =
    omega (arith, c.places-test.true, c.words_with-at-end.ensures, c.capacity.ensures.capacity) in
    elim c.if-not-is_needed.branch [
      | then-not-is_needed+in_ok-forget_value w ↦
          let done =
          forget_more _ _ _ _ _ _ _ _ low w.place.ensures
          (c.is_needed.ensures.no w.if-not-is_needed.true) before.goes before.kept before.trimmed
          w.in_ok-forget_value.ensures in
          rw w.store-is (record {
            was_on = before.was_on;
            head_is = before.head_is;
            goes = done.0;
            kept = done.1;
            trimmed = done.2;
          })
      | else-not-is_needed w ↦ rw w.store-is (record {
        was_on = before.was_on;
        head_is = before.head_is;
        goes = before.goes;
        kept = before.kept;
        trimmed = trimmed_skipped c.args.self.now.base _ _
            (state_of (g.V.Variables.device c.places.store)).map before.trimmed
            (c.is_needed.ensures.yes w.if-not-is_needed.false);
      })
    ]

pub returns : goal.returns
returns g c =
    let before = c.places.invariant in
    let all : 2 * (c.args.self.now.words + 1) ≤ c.places.at =
    omega (arith, c.places-test.false, c.words_with-at-end.ensures, c.capacity.ensures.capacity) in (
      (before.was_on, before.goes),
      trim_keeps _ _ _ _ _ c.args.self.now.fits before.head_is before.kept,
      rw before.head_is (λ at low. before.trimmed at (omega (arith, low, all))),
    )
