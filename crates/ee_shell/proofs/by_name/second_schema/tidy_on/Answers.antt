use Rattle.std.proofs.Common.{rules}
use Rattle.ee_shell.proofs.ByNameLemmas.TidiedImages.{is_tidied, never_cut_so, spent_so}
use Rattle.ee_shell.proofs.by_name.second_schema.tidy_on.Goals as goal

pub unreachable-requires-in-Err-Cut : goal.unreachable-requires-in-Err-Cut
unreachable-requires-in-Err-Cut g c =
    never_cut_so c.args.schema.now _ _ c.in-Err-Cut.field-0 c.in-Err-Cut.field-0-is c.requires
    c.in-Err-Cut.ensures

pub returns-in-Ok-clause-tidied : goal.returns-in-Ok-clause-tidied
returns-in-Ok-clause-tidied g c = search (rules, is_tidied, c.requires, c.in-Ok.ensures) fits 100

pub returns-in-Err-Spent-clause-spent : goal.returns-in-Err-Spent-clause-spent
returns-in-Err-Spent-clause-spent g c =
    spent_so c.args.schema.now _ _ c.in-Err-Spent.field-0 c.in-Err-Spent.field-0-is
    c.in-Err-Spent.ensures
