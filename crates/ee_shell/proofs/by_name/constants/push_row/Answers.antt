use Rattle.std.proofs.Common.{append_assoc, rules}
use Rattle.std.proofs.lemmas.Result.{on_ok_weaker}
use Rattle.ee_shell.specs.ByName.Header.{c_row_of}
use Rattle.ee_shell.proofs.by_name.constants.push_row.Goals as goal

pub returns-in-C : goal.returns-in-C
unfolding c_row_of
returns-in-C g c =
    on_ok_weaker c.write.result (λ here. search (rules, append_assoc)) c.write.ensures.bytes
