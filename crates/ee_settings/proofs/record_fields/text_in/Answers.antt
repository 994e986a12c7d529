use Rattle.std.proofs.Common.{◌≡◌, ◌∙◌, None, rules}
use Rattle.std.specs.Prelude.{option_copied}
use Rattle.toml.proofs.Views.{table_get}
use Rattle.ee_settings.proofs.record_fields.text_in.Goals as goal

pub returns : goal.returns
returns c =
    let found =
    table_get c.get.result c.args.key.now c.args.table.now.entries c.get.ensures.value in
    c.as_str.ensures ∙ rw (← rw c.in_ok-get.was at found)

pub returns-in_err-get : goal.returns-in_err-get
returns-in_err-get c =
    let found =
    table_get c.get.result c.args.key.now c.args.table.now.entries c.get.ensures.value in
    let none : option_copied c.from_residual.result ≡ None = search rules in
    none ∙ rw (← rw c.in_err-get.was at found)
