use Rattle.std.proofs.Common.{◌∙◌, rules, sym}
use Rattle.ee_settings.proofs.Public.{entries_counted}
use Rattle.ee_shell.proofs.ByNameLemmas.Compared.{verified_else, verified_then}
use Rattle.ee_shell.proofs.by_name.verifying.verify_on.Goals.{then-all_stored+in_ok-push_verified, else-all_stored}
use Rattle.ee_shell.proofs.by_name.verifying.verify_on.Goals as goal

pub returns-clause-verified : goal.returns-clause-verified
returns-clause-verified g c = (
  c.in_ok-text.field-0.text.items,
  c.in_ok-text.ensures.told,
  elim c.if-all_stored.branch [
    | then-all_stored+in_ok-push_verified w ↦
        verified_then c.in_ok-text.field-0.all_stored c.in_ok-text.field-0.text.items
        c.if-all_stored.text.items _ w.len.result (search rules)
        (w.len.ensures.len ∙ sym (entries_counted c.args.table.now.entries)) (search rules)
    | else-all_stored w ↦
        verified_else c.in_ok-text.field-0.all_stored c.in_ok-text.field-0.text.items
        c.if-all_stored.text.items _ (search rules) (search rules)
  ],
)
