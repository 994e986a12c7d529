use Rattle.ee_shell.proofs.ByNameLemmas.Unset.{is_forgotten}
use Rattle.ee_shell.proofs.by_name.unsetting.unset_on.Goals as goal

pub returns-in-Ok-clause-forgotten : goal.returns-in-Ok-clause-forgotten
returns-in-Ok-clause-forgotten g c =
    is_forgotten c.args.schema.now.settings _ _ c.args.name.now c.in-Some.numbers c.in-Ok.field-0 c.requires
    c.in-Some.ensures.found c.in-Ok.ensures
