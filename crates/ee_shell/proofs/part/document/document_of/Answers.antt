use Rattle.std.proofs.Common.{Err}
use Rattle.std.proofs.lemmas.Result.{IfOk-weaker}
use Rattle.ee_shell.proofs.part.document.document_of.Goals as goal

pub returns-in-Err : goal.returns-in-Err
returns-in-Err g c = IfOk-weaker c.document_of_fault.result _ _
    (λ text made.
    record { found = Err c.in-Err.fault; is_found = c.in-Err.ensures.fault; document_is = made })
    c.document_of_fault.ensures
