use Rattle.std.proofs.Common.{rules}
use Rattle.std.proofs.lemmas.Result.{on_ok_weaker}
use Rattle.ee_shell.proofs.ByNameLemmas.Writing.{record_constants_made}
use Rattle.ee_shell.proofs.by_name.constants.push_record_constants.Goals as goal

pub returns : goal.returns
returns g c =
    on_ok_weaker c.push_constant-3.result (λ here. search (rules, record_constants_made))
    c.push_constant-3.ensures
