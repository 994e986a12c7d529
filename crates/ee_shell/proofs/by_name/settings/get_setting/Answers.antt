use Rattle.std.proofs.lemmas.Result.{IfErr-weaker, IfOk-weaker, MatchResult-from_both}
use Rattle.ee_core.specs.State.{state_of}
use Rattle.ee_text.proofs.Public.{error_passed_on, passed_on}
use Rattle.ee_interface.specs.declared.fault.Fault.TheVariants.{UnknownName}
use Rattle.ee_shell.proofs.ByNameLemmas.Named.{is_get_fault, is_got, never_unknown, spells_settings}
use Rattle.ee_shell.proofs.ByNameLemmas.OwnCauses.{named_first, one_own, own_left, told_first}
use Rattle.ee_shell.proofs.by_name.settings.get_setting.Goals as goal

pub returns-in_err-opened-clause-fault : goal.returns-in_err-opened-clause-fault
returns-in_err-opened-clause-fault g c =
    passed_on _ _ _ c.from_residual.ensures.1
    (told_first c.args.image.now c.args.settings.now _ c.in_err-opened.ensures.fault)

pub returns-in_err-opened-clause-names : goal.returns-in_err-opened-clause-names
returns-in_err-opened-clause-names g c = λ cause some applies.
    error_passed_on _ _ _ _ c.from_residual.ensures.1
    (named_first c.args.image.now c.args.settings.now _ cause c.in_err-opened.ensures.names
    c.in_err-opened.ensures.only some applies (λ h. (h.0, (h.1.whole.settings, spells_settings c.args.settings.now h.1.whole h.1.spelled))))

pub returns-clause-got : goal.returns-clause-got
returns-clause-got g c = IfOk-weaker c.reading_on.result _ _
    (λ text. is_got c.args.image.now c.args.settings.now c.args.name.now text.items
    c.in_ok-opened.opened.store c.in_ok-opened.opened.schema c.in_ok-opened.ensures.opened
    c.in_ok-opened.ensures.whole)
    c.reading_on.ensures.got

pub returns-clause-fault : goal.returns-clause-fault
returns-clause-fault g c = IfErr-weaker c.reading_on.result _ _
    (λ fault. is_get_fault c.args.image.now c.args.settings.now c.args.name.now
    c.in_ok-opened.opened.store c.in_ok-opened.opened.schema fault
    c.in_ok-opened.ensures.opened c.in_ok-opened.ensures.whole)
    c.reading_on.ensures.fault

pub returns-clause-names : goal.returns-clause-names
returns-clause-names g c = λ cause some applies.
    own_left c.args.image.now c.args.settings.now cause c.in_ok-opened.ensures.names some applies
    (λ h. MatchResult-from_both c.reading_on.result _ _
    (IfOk-weaker c.reading_on.result _ _
    (λ text read. never_unknown c.args.settings.now c.args.name.now text.items
    c.in_ok-opened.opened.schema (state_of c.in_ok-opened.opened.store) c.in_ok-opened.ensures.whole
    read h.1)
    c.reading_on.ensures.got)
    (IfErr-weaker c.reading_on.result _ _ (λ fault told. one_own UnknownName fault cause told h.2)
    c.reading_on.ensures.fault))
