use Rattle.toml.specs.View.{table_view}
use Rattle.ee_shell.proofs.ByNameLemmas.Named.{schema_good, schema_named, schema_only}
use Rattle.ee_shell.proofs.by_name.opening.read_schema.Goals as goal

pub returns-in-Ok-clause-names : goal.returns-in-Ok-clause-names
returns-in-Ok-clause-names g c = λ cause some applies.
    schema_good c.args.text.now (table_view c.in_ok-table.table) c.in-Ok.schema cause
    c.in_ok-table.ensures.read c.in-Ok.ensures.gives some applies

pub returns-clause-names : goal.returns-clause-names
returns-clause-names g c = λ cause some applies.
    schema_named c.args.text.now (table_view c.in_ok-table.table) c.in-Err.fault c.fault_of.result
    cause c.in_ok-table.ensures.read c.in-Err.ensures.rises c.in-Err.ensures.gives
    c.fault_of.ensures some applies

pub returns-clause-only : goal.returns-clause-only
returns-clause-only g c = λ has.
    schema_only c.args.text.now (table_view c.in_ok-table.table) c.in-Err.fault c.fault_of.result
    has.0 c.in_ok-table.ensures.read c.in-Err.ensures.gives c.fault_of.ensures has.1
