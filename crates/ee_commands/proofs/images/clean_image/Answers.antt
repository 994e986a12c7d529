use Rattle.std.proofs.Common.{rules, refl, inr}
use Rattle.std.proofs.lemmas.Result.{err_from_is_err_and}
use Rattle.ee_commands.proofs.Cleaning.{is_cleaned}
use Rattle.ee_image_store.proofs.Public.{opening_good, opening_named}
use Rattle.ee_commands.proofs.images.clean_image.Goals as goal

pub returns-clause-cleaned : goal.returns-clause-cleaned
returns-clause-cleaned g c = search (rules, is_cleaned)

pub returns-in_err-store-clause-names : goal.returns-in_err-store-clause-names
returns-in_err-store-clause-names g c = λ cause some applies.
    let p = err_from_is_err_and c.from_residual.result c.from_residual.ensures.1 in
    rw p.1
    (opening_named c.args.image.now c.in_err-store.field-0.0 p.0 cause
    c.in_err-store.ensures.fault p.2 some applies)

pub returns-clause-names : goal.returns-clause-names
returns-clause-names g c = λ cause some applies.
    let opened = c.in_ok-store.ensures.opened in
    opening_good c.args.image.now opened.device cause opened.old some applies

pub returns-in_err-image : goal.returns-in_err-image
returns-in_err-image g c =
    let p =
    err_from_is_err_and c.from_residual-in_err-image.result
    c.from_residual-in_err-image.ensures.1 in
    rw p.1
    (rw p.2
    (record { cleaned = tt; fault = search rules; names = λ cause some applies. inr refl }))

pub returns-in_err-push_cleaned : goal.returns-in_err-push_cleaned
returns-in_err-push_cleaned g c =
    let p =
    err_from_is_err_and c.from_residual-in_err-push_cleaned.result
    c.from_residual-in_err-push_cleaned.ensures.1 in
    rw p.1
    (rw p.2
    (record { cleaned = tt; fault = search rules; names = λ cause some applies. inr refl }))
