use Rattle.std.proofs.Common.{inl, inr, refl}
use Rattle.std.proofs.lemmas.Result.{IfErr-weaker, IfOk-weaker, MatchResult-from_both}
use Rattle.ee_text.proofs.Public.{error_passed_on, passed_on}
use Rattle.ee_shell.proofs.ByNameLemmas.Named.{no_record_in, others_left, record_first, record_in, takes_both, is_refused_in, is_set, refused_once, set_good}
use Rattle.ee_shell.proofs.ByNameLemmas.OwnCauses.{named_first, own_left, told_first}
use Rattle.ee_shell.proofs.by_name.settings.set_setting.Goals as goal

pub returns-in_err-opened-clause-fault : goal.returns-in_err-opened-clause-fault
returns-in_err-opened-clause-fault g c =
    passed_on _ _ _ c.from_residual.ensures.1
    (told_first c.args.image.now c.args.settings.now _ c.in_err-opened.ensures.fault)

pub returns-in_err-opened-clause-names : goal.returns-in_err-opened-clause-names
returns-in_err-opened-clause-names g c = λ cause some applies.
    error_passed_on _ _ _ _ c.from_residual.ensures.1
    (named_first c.args.image.now c.args.settings.now _ cause c.in_err-opened.ensures.names
    c.in_err-opened.ensures.only some applies
    (takes_both c.args.image.now c.args.settings.now c.args.name.now cause
    (λ h. ((h.device, h.old), (h.settings, h.spelled)))))

pub returns-in-None-clause-set : goal.returns-in-None-clause-set
returns-in-None-clause-set g c = IfOk-weaker c.set_left.result _ _
    (λ given. is_set c.args.image.now c.args.settings.now c.args.name.now given.image.items
    given.text.items c.args.value c.in_ok-opened.opened.store c.in_ok-opened.opened.schema.settings
    c.in_ok-opened.ensures.opened c.in_ok-opened.ensures.spelled)
    c.set_left.ensures.set

pub returns-in-None-clause-fault : goal.returns-in-None-clause-fault
returns-in-None-clause-fault g c = IfErr-weaker c.set_left.result _ _
    (λ fault refused. inr
    (inr
    (inr (
      no_record_in c.args.settings.now c.args.name.now c.in_ok-opened.opened.schema
          c.records.result.now c.in_ok-opened.ensures.whole c.records.ensures
          c.in-None.ensures.none,
      is_refused_in c.args.image.now c.args.settings.now c.args.name.now c.args.value
          c.in_ok-opened.opened.store c.in_ok-opened.opened.schema.settings fault
          c.in_ok-opened.ensures.opened c.in_ok-opened.ensures.spelled refused,
    ))))
    c.set_left.ensures.fault

pub returns-in-None-clause-names : goal.returns-in-None-clause-names
returns-in-None-clause-names g c = λ cause some applies.
    own_left c.args.image.now c.args.settings.now cause c.in_ok-opened.ensures.names some applies
    (λ own. others_left c.args.image.now c.args.settings.now c.args.name.now cause
    (no_record_in c.args.settings.now c.args.name.now c.in_ok-opened.opened.schema
    c.records.result.now c.in_ok-opened.ensures.whole c.records.ensures c.in-None.ensures.none) own
    (λ h. MatchResult-from_both c.set_left.result _ _
    (IfOk-weaker c.set_left.result _ _
    (λ given done. set_good c.args.image.now c.args.settings.now c.args.name.now c.args.value
    c.in_ok-opened.opened.store done.last c.in_ok-opened.opened.schema.settings cause
    c.in_ok-opened.ensures.opened c.in_ok-opened.ensures.spelled done.written some h)
    c.set_left.ensures.set)
    (IfErr-weaker c.set_left.result _ _
    (λ fault refused. refused_once c.args.image.now c.args.settings.now c.args.name.now c.args.value
    c.in_ok-opened.opened.store c.in_ok-opened.opened.schema.settings fault cause
    c.in_ok-opened.ensures.opened c.in_ok-opened.ensures.spelled refused some h)
    c.set_left.ensures.fault)))

pub returns-in-Some-clause-fault : goal.returns-in-Some-clause-fault
returns-in-Some-clause-fault g c = inr
    (inr
    (inl (
      (c.in_ok-opened.ensures.opened.device, c.in_ok-opened.ensures.opened.old),
      record_in c.args.settings.now c.args.name.now c.in_ok-opened.opened.schema
          c.records.result.now c.in-Some.field-0.now c.in_ok-opened.ensures.whole
          c.records.ensures c.in-Some.ensures.found,
      refl,
    )))

pub returns-in-Some-clause-names : goal.returns-in-Some-clause-names
returns-in-Some-clause-names g c = λ cause some applies.
    own_left c.args.image.now c.args.settings.now cause c.in_ok-opened.ensures.names some applies
    (record_first c.args.image.now c.args.settings.now c.args.name.now cause
    (record_in c.args.settings.now c.args.name.now c.in_ok-opened.opened.schema
    c.records.result.now c.in-Some.field-0.now c.in_ok-opened.ensures.whole c.records.ensures
    c.in-Some.ensures.found))
