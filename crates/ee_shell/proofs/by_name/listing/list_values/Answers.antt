use Rattle.std.proofs.lemmas.Result.{IfErr-weaker, IfOk-weaker, err_from_is_err_and}
use Rattle.ee_shell.proofs.ByNameLemmas.Listings.{is_list, no_memory}
use Rattle.ee_image_store.proofs.Public.{opening_good, opening_named}
use Rattle.ee_shell.proofs.by_name.listing.list_values.Goals as goal

pub returns-in_err-store-clause-names : goal.returns-in_err-store-clause-names
returns-in_err-store-clause-names g c = λ cause some applies.
    let p = err_from_is_err_and c.from_residual.result c.from_residual.ensures.1 in
    rw p.1
    (opening_named c.args.image.now c.in_err-store.field-0.0 p.0 cause
    c.in_err-store.ensures.fault p.2 some applies)

pub returns-clause-fault : goal.returns-clause-fault
returns-clause-fault g c =
    IfErr-weaker c.lines_on.result _ _ (λ fault none. no_memory c.args.image.now fault none)
    c.lines_on.ensures.fault

pub returns-clause-names : goal.returns-clause-names
returns-clause-names g c = λ cause some applies.
    let opened = c.in_ok-store.ensures.opened in
    absurd (opening_good c.args.image.now opened.device cause opened.old some applies)

pub returns-clause-list : goal.returns-clause-list
returns-clause-list g c = IfOk-weaker c.lines_on.result _ _
    (λ text. is_list c.args.image.now text.items c.in_ok-store.store c.empty-schema.result _
    c.in_ok-store.ensures.opened c.empty-schema.ensures)
    c.lines_on.ensures.lines
