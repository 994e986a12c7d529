use Rattle.std.proofs.Common.{inr, refl, rules}
use Rattle.std.proofs.lemmas.Result.{err_from_is_err_and}
use Rattle.ee_text.proofs.Public.{error_passed_on}
use Rattle.ee_shell.proofs.ByNameLemmas.Named.{settings_good}
use Rattle.ee_shell.proofs.by_name.header.header_text.Goals as goal

pub returns-in_err-text-clause-fault : goal.returns-in_err-text-clause-fault
returns-in_err-text-clause-fault g c =
    let p =
    err_from_is_err_and c.from_residual-in_err-text.result
    c.from_residual-in_err-text.ensures.1 in
    rw p.1 (rw p.2 (inr (inr refl)))

pub returns-clause-header : goal.returns-clause-header
returns-clause-header g c = record {
  schema = c.in_ok-schema.schema;
  spelled = c.in_ok-schema.ensures.whole;
  text_is = search rules;
}

pub returns-clause-names : goal.returns-clause-names
returns-clause-names g c = λ cause some applies.
    settings_good c.args.settings.now c.in_ok-schema.schema.settings cause c.in_ok-schema.ensures.spelled
    some applies

pub returns-in_err-schema-clause-names : goal.returns-in_err-schema-clause-names
returns-in_err-schema-clause-names g c =
    λ cause some applies. error_passed_on _ _ _ _ c.from_residual.ensures.1
    (c.in_err-schema.ensures.names cause some applies)
