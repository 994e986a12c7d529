use Rattle.std.proofs.Common.{rules}
use Rattle.std.proofs.lemmas.Result.{IfOk-weaker}
use Rattle.ee_program.proofs.FaultKinds.{none_told}
use Rattle.ee_program.proofs.explain.telling.fault_told.Goals as goal

pub returns-clause-none : goal.returns-clause-none
returns-clause-none g c =
    IfOk-weaker c.first_told.result _ _
    (λ told none. none_told told _ c.args.line.now (search rules) none) c.first_told.ensures.none
