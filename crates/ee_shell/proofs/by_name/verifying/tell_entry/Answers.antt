use Rattle.std.proofs.Common.{rules}
use Rattle.toml.specs.View.{view}
use Rattle.ee_shell.proofs.ByNameLemmas.Compared.{same_told}
use Rattle.ee_shell.proofs.by_name.verifying.tell_entry.Goals as goal

pub returns-then-eq-clause-told : goal.returns-then-eq-clause-told
returns-then-eq-clause-told g c =
    same_told c.args.schema.now.settings c.args.store.now (c.args.name.now, view c.args.value.now)
    c.in_ok-numbers.field-0.numbers c.in_ok-numbers.field-0.value c.args.out.now.items
    c.in_ok-numbers.ensures.wanted (search rules)
