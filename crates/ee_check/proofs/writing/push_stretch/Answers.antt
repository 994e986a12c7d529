use Rattle.std.proofs.Common.{arith}
use Rattle.std.proofs.lemmas.Grind.{common_steps}
use Rattle.ee_check.proofs.writing.push_stretch.Goals as goal

pub returns-in_err-push_number_behind-2-clause-err
    : goal.returns-in_err-push_number_behind-2-clause-err
returns-in_err-push_number_behind-2-clause-err g c = grind (arith, common_steps)

pub returns : goal.returns
returns g c = record { ok = grind (arith, common_steps); err = grind (arith, common_steps) }
