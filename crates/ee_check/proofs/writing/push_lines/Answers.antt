use Rattle.std.proofs.Common.{arith}
use Rattle.std.proofs.lemmas.Grind.{common_steps}
use Rattle.ee_check.proofs.writing.push_lines.Goals as goal

pub returns-in_err-push_stretches-clause-err : goal.returns-in_err-push_stretches-clause-err
returns-in_err-push_stretches-clause-err g c = grind (arith, common_steps)

pub returns-in_err-push_number_behind-clause-err : goal.returns-in_err-push_number_behind-clause-err
returns-in_err-push_number_behind-clause-err g c = grind (arith, common_steps)

pub returns : goal.returns
returns g c = record { ok = grind (arith, common_steps); err = grind (arith, common_steps) }
