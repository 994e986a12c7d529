use Rattle.std.proofs.Common.{ℕ, rules}
use Rattle.std.proofs.lemmas.Result.{err_from_is_err_and}
use Rattle.ee_settings.proofs.Tidied.{batch_further, batch_stops}
use Rattle.ee_settings.proofs.tidying.forget_unnamed.Goals as goal

pub returns-in_err-forgotten-clause-stopped : goal.returns-in_err-forgotten-clause-stopped
returns-in_err-forgotten-clause-stopped g c =
    let pair : ℕ × ℕ = (c.in-Some.address, c.in-Some.field-0-1) in
    let here = c.in-Some.ensures'.found in
    let stops =
    batch_stops c.args.settings.now c.args.found.now.items c.each.place c.each.forgotten _ _
    pair c.each.invariant here.0 here.1 in
    let stopped = c.in_err-forgotten.ensures.stopped in
    let p = err_from_is_err_and c.from_residual.result c.from_residual.ensures.1 in
    rw (p.1, p.2) (search (rules, stops, stopped))

pub each-preserved : goal.each-preserved
each-preserved g c =
    let pair : ℕ × ℕ = (c.in-Some.address, c.in-Some.field-0-1) in
    let here = c.in-Some.ensures'.found in
    let further =
    batch_further c.args.settings.now c.args.found.now.items c.each.place c.each.forgotten _ _
    pair c.each.invariant here.0 here.1 in
    let counted = c.in_ok-forgotten.ensures.count in
    let made = c.in_ok-forgotten.ensures.forgotten in
    search (rules, further, counted, made)
