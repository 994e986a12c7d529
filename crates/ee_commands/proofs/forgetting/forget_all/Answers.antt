use Rattle.std.proofs.Common.{rules, inl}
use Rattle.std.proofs.lemmas.Result.{err_from_is_err_and}
use Rattle.ee_image_store.proofs.Public.{no_memory_to_open}
use Rattle.ee_commands.proofs.ForgottenAll.{forgotten_good, forgotten_unopened, held_stays, is_emptied, one_cause, spent_stays, stays_full}
use Rattle.ee_commands.proofs.forgetting.forget_all.Goals as goal

pub returns-clause-forgotten : goal.returns-clause-forgotten
returns-clause-forgotten g c = search (rules, is_emptied)

pub returns-in_err-store-clause-names : goal.returns-in_err-store-clause-names
returns-in_err-store-clause-names g c = λ cause some applies.
    let p = err_from_is_err_and c.from_residual.result c.from_residual.ensures.1 in
    rw p.1
    (forgotten_unopened c.args.force c.args.image.now c.in_err-store.field-0.0 p.0 cause
    c.in_err-store.ensures.fault p.2 some applies)

pub returns-in_err-image-clause-fault : goal.returns-in_err-image-clause-fault
returns-in_err-image-clause-fault g c =
    let p =
    err_from_is_err_and c.from_residual-in_err-image.result
    c.from_residual-in_err-image.ensures.1 in
    rw p.1 (rw p.2 (inl (no_memory_to_open c.args.image.now)))

pub returns-in_err-clear_still-clause-fault : goal.returns-in_err-clear_still-clause-fault
returns-in_err-clear_still-clause-fault g c =
    let p =
    err_from_is_err_and c.from_residual-in_err-clear_still.result
    c.from_residual-in_err-clear_still.ensures.1 in
    rw p.1
    (rw p.2
    (stays_full c.args.force c.args.image.now c.in_ok-store.store c.in_err-clear_still.field-0.0
    c.in_ok-store.ensures.opened
    (spent_stays c.args.force c.in_ok-store.store c.in_err-clear_still.field-0.0
    c.in_err-clear_still.ensures.spent.0 c.in_err-clear_still.ensures.spent.1 (search rules))))

pub returns-in_err-clear_still-clause-names : goal.returns-in_err-clear_still-clause-names
returns-in_err-clear_still-clause-names g c = λ cause some applies.
    let p =
    err_from_is_err_and c.from_residual-in_err-clear_still.result
    c.from_residual-in_err-clear_still.ensures.1 in
    rw p.1
    (rw p.2
    (one_cause c.args.force c.args.image.now c.in_ok-store.store c.in_err-clear_still.field-0.0 cause
    c.in_ok-store.ensures.opened
    (spent_stays c.args.force c.in_ok-store.store c.in_err-clear_still.field-0.0
    c.in_err-clear_still.ensures.spent.0 c.in_err-clear_still.ensures.spent.1 (search rules)) some
    applies))

pub returns-clause-names : goal.returns-clause-names
returns-clause-names g c = λ cause some applies.
    forgotten_good c.args.force c.args.image.now c.in_ok-store.store _ c.in_ok-clear_still.field-0
    cause c.in_ok-store.ensures.opened (search rules) c.in_ok-clear_still.ensures.cleared some applies

pub returns-then-is_held_back-clause-names : goal.returns-then-is_held_back-clause-names
returns-then-is_held_back-clause-names g c = λ cause some applies.
    one_cause c.args.force c.args.image.now c.in_ok-store.store _ cause c.in_ok-store.ensures.opened
    (held_stays c.args.force c.in_ok-store.store (search rules)) some applies

pub returns-then-is_held_back-clause-fault : goal.returns-then-is_held_back-clause-fault
returns-then-is_held_back-clause-fault g c =
    stays_full c.args.force c.args.image.now c.in_ok-store.store _ c.in_ok-store.ensures.opened
    (held_stays c.args.force c.in_ok-store.store (search rules))
