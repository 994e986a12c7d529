use Rattle.std.proofs.Common.{◌∙◌, [], arith, sym}
use Rattle.std.proofs.lemmas.Grind.{common_steps}
use Rattle.std.proofs.lemmas.List.{append-nil}
use Rattle.ee_interface.proofs.script.parse.read_command.Goals as goal

pub returns-in_default-clause-only : goal.returns-in_default-clause-only
returns-in_default-clause-only c = λ command proper spelled.
    let same =
    c.leading_command.ensures.only command [] proper tt (spelled ∙ sym (append-nil _)) in grind
    (arith, common_steps, same)
