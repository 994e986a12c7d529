use Rattle.std.proofs.Common.{append_assoc, rules}
use Rattle.std.proofs.lemmas.Result.{on_ok_weaker}
use Rattle.ee_shell.specs.ByName.Header.{c_constant}
use Rattle.ee_shell.proofs.by_name.constants.push_constant.Goals as goal

pub returns-in-C : goal.returns-in-C
unfolding c_constant
returns-in-C g c =
    rw c.in-C.is
    (on_ok_weaker c.writeln.result (λ here. search (rules, append_assoc))
    c.writeln.ensures.bytes)
