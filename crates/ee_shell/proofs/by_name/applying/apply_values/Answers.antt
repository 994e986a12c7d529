use Rattle.std.proofs.lemmas.Result.{IfErr-weaker, IfOk-weaker, MatchResult-from_both}
use Rattle.toml.specs.View.{table_view}
use Rattle.ee_text.proofs.Public.{error_passed_on, passed_on}
use Rattle.ee_shell.proofs.ByNameLemmas.Causes.{apply_good, apply_stopped, apply_takes, apply_unread, is_applied, stopped_fault, unread_fault}
use Rattle.ee_shell.proofs.ByNameLemmas.OwnCauses.{named_first, own_left, told_first}
use Rattle.ee_shell.proofs.by_name.applying.apply_values.Goals as goal

pub returns-in_err-opened-clause-fault : goal.returns-in_err-opened-clause-fault
returns-in_err-opened-clause-fault g c =
    passed_on _ _ _ c.from_residual.ensures.1
    (told_first c.args.image.now c.args.settings.now _ c.in_err-opened.ensures.fault)

pub returns-in_err-opened-clause-names : goal.returns-in_err-opened-clause-names
returns-in_err-opened-clause-names g c = λ cause some applies.
    error_passed_on _ _ _ _ c.from_residual.ensures.1
    (named_first c.args.image.now c.args.settings.now _ cause c.in_err-opened.ensures.names
    c.in_err-opened.ensures.only some applies
    (apply_takes c.args.image.now c.args.settings.now c.args.values.now cause))

pub returns-in_err-table-clause-fault : goal.returns-in_err-table-clause-fault
returns-in_err-table-clause-fault g c = passed_on _ _ _ c.from_residual-in_err-table.ensures.1
    (unread_fault c.args.image.now c.args.settings.now c.args.values.now c.in_ok-opened.opened.store
    c.in_ok-opened.opened.schema.settings _ c.in_ok-opened.ensures.opened c.in_ok-opened.ensures.spelled
    c.in_err-table.ensures.fault)

pub returns-in_err-table-clause-names : goal.returns-in_err-table-clause-names
returns-in_err-table-clause-names g c =
    λ cause some applies. error_passed_on _ _ _ _ c.from_residual-in_err-table.ensures.1
    (own_left c.args.image.now c.args.settings.now cause c.in_ok-opened.ensures.names some applies
    (apply_unread c.args.image.now c.args.settings.now c.args.values.now _ cause
    c.in_err-table.ensures.fault))

pub returns-clause-applied : goal.returns-clause-applied
returns-clause-applied g c = IfOk-weaker c.apply_left.result _ _
    (λ given. is_applied c.args.image.now c.args.settings.now c.args.values.now given.image.items
    given.text.items c.in_ok-opened.opened.store c.in_ok-opened.opened.schema.settings
    (table_view c.in_ok-table.table) c.in_ok-opened.ensures.opened
    c.in_ok-opened.ensures.spelled
    c.in_ok-table.ensures.read)
    c.apply_left.ensures.applied

pub returns-clause-fault : goal.returns-clause-fault
returns-clause-fault g c = IfErr-weaker c.apply_left.result _ _
    (λ fault. stopped_fault c.args.image.now c.args.settings.now c.args.values.now
    c.in_ok-opened.opened.store c.in_ok-opened.opened.schema.settings
    (table_view c.in_ok-table.table) fault c.in_ok-opened.ensures.opened
    c.in_ok-opened.ensures.spelled c.in_ok-table.ensures.read)
    c.apply_left.ensures.stopped

pub returns-clause-names : goal.returns-clause-names
returns-clause-names g c = λ cause some applies.
    let tree = table_view c.in_ok-table.table in
    own_left c.args.image.now c.args.settings.now cause c.in_ok-opened.ensures.names some applies
    (λ own. MatchResult-from_both c.apply_left.result _ _
    (IfOk-weaker c.apply_left.result _ _
    (λ given done. apply_good c.args.image.now c.args.settings.now c.args.values.now
    c.in_ok-opened.opened.store done.last c.in_ok-opened.opened.schema.settings tree done.count cause
    c.in_ok-opened.ensures.opened c.in_ok-opened.ensures.spelled c.in_ok-table.ensures.read
    done.applied own)
    c.apply_left.ensures.applied)
    (IfErr-weaker c.apply_left.result _ _
    (λ fault stopped. apply_stopped c.args.image.now c.args.settings.now c.args.values.now
    c.in_ok-opened.opened.store c.in_ok-opened.opened.schema.settings tree fault cause
    c.in_ok-opened.ensures.opened c.in_ok-opened.ensures.spelled c.in_ok-table.ensures.read
    stopped own)
    c.apply_left.ensures.stopped))
