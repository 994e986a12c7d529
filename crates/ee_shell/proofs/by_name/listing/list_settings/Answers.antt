use Rattle.std.proofs.Common.{inl}
use Rattle.std.proofs.lemmas.Result.{IfErr-weaker, IfOk-weaker}
use Rattle.ee_text.proofs.Public.{error_passed_on}
use Rattle.ee_shell.proofs.ByNameLemmas.Listings.{is_list, no_memory}
use Rattle.ee_shell.proofs.by_name.listing.list_settings.Goals as goal

pub returns-in_err-opened-clause-names : goal.returns-in_err-opened-clause-names
returns-in_err-opened-clause-names g c =
    λ cause some applies. error_passed_on _ _ _ _ c.from_residual.ensures.1
    (c.in_err-opened.ensures.names cause some applies)

pub returns-clause-list : goal.returns-clause-list
returns-clause-list g c = IfOk-weaker c.lines_on.result _ _
    (λ text. is_list c.args.image.now text.items c.in_ok-opened.opened.store
    c.in_ok-opened.opened.schema _ c.in_ok-opened.ensures.opened
    c.in_ok-opened.ensures.whole)
    c.lines_on.ensures.lines

pub returns-clause-fault : goal.returns-clause-fault
returns-clause-fault g c =
    IfErr-weaker c.lines_on.result _ _ (λ fault none. inl (no_memory c.args.image.now fault none))
    c.lines_on.ensures.fault

pub returns-clause-names : goal.returns-clause-names
returns-clause-names g c =
    λ cause some applies. absurd (c.in_ok-opened.ensures.names cause some applies)
