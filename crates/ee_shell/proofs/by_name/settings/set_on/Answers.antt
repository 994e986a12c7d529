use Rattle.ee_shell.proofs.ByNameLemmas.Named.{is_written}
use Rattle.ee_shell.proofs.by_name.settings.set_on.Goals as goal

pub returns-in-Ok-clause-written : goal.returns-in-Ok-clause-written
returns-in-Ok-clause-written g c =
    is_written c.args.schema.now.settings _ _ c.args.name.now c.args.value c.in-Ok.field-0 c.requires
    c.in-Ok.ensures
