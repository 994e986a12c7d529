use Rattle.std.proofs.Common.{codes, rules}
use Rattle.toml.proofs.Views.{table_get}
use Rattle.ee_settings.proofs.record_fields.kind_of.Goals as goal

pub returns-in-Some : goal.returns-in-Some
returns-in-Some c =
    let found =
    table_get c.get.result (codes "bytes") c.args.table.now.entries c.get.ensures.value in
    rw (← rw c.in-Some.is at found) (search rules)

pub returns-in-None : goal.returns-in-None
returns-in-None c =
    let found =
    table_get c.get.result (codes "bytes") c.args.table.now.entries c.get.ensures.value in
    rw (← rw c.in-None.is at found) (search rules)
