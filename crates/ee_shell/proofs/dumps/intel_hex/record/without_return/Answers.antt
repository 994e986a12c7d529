use Rattle.std.proofs.Common.{◌≡◌, length, rules, arith}
use Rattle.std.proofs.lemmas.List.{nil_from_length}
use Rattle.ee_shell.proofs.dumps.intel_hex.Parsing.{bare_empty}
use Rattle.ee_shell.proofs.dumps.intel_hex.record.without_return.Goals as goal

pub returns-in_default : goal.returns-in_default
returns-in_default c =
    let none : length c.args.line.now ≡ 0 = first_of (search rules, omega arith) in
    bare_empty c.args.line.now (nil_from_length c.args.line.now none)
