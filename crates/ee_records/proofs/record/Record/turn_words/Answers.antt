use Rattle.std.proofs.Common.{ℕ, arith}
use Rattle.std.proofs.lemmas.Nat.{xor_of_16}
use Rattle.std.proofs.lemmas.Result.{err_from_is_err_and}
use Rattle.ee_records.proofs.Prepared.{head_completes, keeps_all, paid_for, refused}
use Rattle.ee_records.proofs.record.Record.turn_words.Goals as goal

pub returns-in_err-put_words : goal.returns-in_err-put_words
returns-in_err-put_words g c =
    let kept =
    keeps_all _ _ _ _ _ c.args.self.now.fits c.requires.head c.in_err-put_words.ensures.kept in
    let p = err_from_is_err_and c.from_residual.result c.from_residual.ensures.1 in
    rw (p.1, p.2)
    (refused ℕ _ _ _ _ _ c.args.bytes.now c.requires.on kept c.in_err-put_words.ensures.ends)

pub returns : goal.returns
returns g c =
    let old = g.V.Variables.device c.args.store.now in
    let mid = g.V.Variables.device c.put_words.new.store in
    let base : ℕ = c.args.self.now.base in
    let room : ℕ = c.args.self.now.words in
    let kept = c.in_ok-put_words.ensures.kept in
    let done =
    head_completes old mid base room c.args.turns c.args.turned c.base.result c.args.bytes.now
    (λ at. omega (arith, c.type_inv.bytes at)) c.requires.fits c.requires.unchanged kept
    c.in_ok-put_words.ensures.there c.base.ensures in (
      (c.requires.on, c.in_ok-put_words.ensures.ends),
      keeps_all old mid base room c.args.turns c.args.self.now.fits c.requires.head kept,
      done.0,
      done.1,
      paid_for old mid base c.args.turned c.args.bytes.now c.requires.changed
          c.in_ok-put_words.ensures.paid,
    )

pub overflow_mul-result : goal.overflow_mul-result
overflow_mul-result g c =
    omega (arith, xor_of_16 c.args.turns c.args.turned c.requires.turns_fit c.requires.turned_fit)

pub overflow_add-result : goal.overflow_add-result
overflow_add-result g c =
    let turns =
    xor_of_16 c.args.turns c.args.turned c.requires.turns_fit c.requires.turned_fit in
    omega (arith, turns, c.requires.fits, c.args.self.now.fits)
