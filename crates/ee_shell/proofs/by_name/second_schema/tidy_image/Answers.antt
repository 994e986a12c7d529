use Rattle.std.proofs.lemmas.Result.{IfErr-weaker, IfOk-weaker, MatchResult-from_both}
use Rattle.ee_text.proofs.Public.{error_passed_on, passed_on}
use Rattle.ee_interface.specs.declared.fault.Fault.TheVariants.{Spent}
use Rattle.ee_shell.proofs.ByNameLemmas.OwnCauses.{named_first, one_own, own_left, told_first}
use Rattle.ee_shell.proofs.ByNameLemmas.Named.{spells_settings}
use Rattle.ee_shell.proofs.ByNameLemmas.TidiedImages.{is_tidied_image, tidy_good, untidied}
use Rattle.ee_shell.proofs.by_name.second_schema.tidy_image.Goals as goal

pub returns-in_err-opened-clause-fault : goal.returns-in_err-opened-clause-fault
returns-in_err-opened-clause-fault g c =
    passed_on _ _ _ c.from_residual.ensures.1
    (told_first c.args.image.now c.args.settings.now _ c.in_err-opened.ensures.fault)

pub returns-in_err-opened-clause-names : goal.returns-in_err-opened-clause-names
returns-in_err-opened-clause-names g c = λ cause some applies.
    error_passed_on _ _ _ _ c.from_residual.ensures.1
    (named_first c.args.image.now c.args.settings.now _ cause c.in_err-opened.ensures.names
    c.in_err-opened.ensures.only some applies
    (λ h. ((h.device, h.old), (h.schema.settings, spells_settings _ _ h.spelled))))

pub returns-clause-tidied : goal.returns-clause-tidied
returns-clause-tidied g c = IfOk-weaker c.tidy_left.result _ _
    (λ given. is_tidied_image c.args.image.now c.args.settings.now given.image.items
    given.text.items c.in_ok-opened.opened.store c.in_ok-opened.opened.schema
    c.in_ok-opened.ensures.opened c.in_ok-opened.ensures.whole)
    c.tidy_left.ensures.tidied

pub returns-clause-fault : goal.returns-clause-fault
returns-clause-fault g c = IfErr-weaker c.tidy_left.result _ _
    (λ fault. untidied c.args.image.now c.args.settings.now c.in_ok-opened.opened.store
    c.in_ok-opened.opened.schema fault c.in_ok-opened.ensures.opened
    c.in_ok-opened.ensures.whole)
    c.tidy_left.ensures.fault

pub returns-clause-names : goal.returns-clause-names
returns-clause-names g c = λ cause some applies.
    own_left c.args.image.now c.args.settings.now cause c.in_ok-opened.ensures.names some applies
    (λ h. MatchResult-from_both c.tidy_left.result _ _
    (IfOk-weaker c.tidy_left.result _ _
    (λ given done. tidy_good c.args.image.now c.args.settings.now c.in_ok-opened.opened.store
    done.last c.in_ok-opened.opened.schema done.count cause c.in_ok-opened.ensures.opened
    c.in_ok-opened.ensures.whole done.tidied h)
    c.tidy_left.ensures.tidied)
    (IfErr-weaker c.tidy_left.result _ _ (λ fault told. one_own Spent fault cause told h.fault_is)
    c.tidy_left.ensures.fault))
