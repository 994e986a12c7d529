use Rattle.std.proofs.Common.{not, rules}
use Rattle.std.proofs.lemmas.Fn.{filter_same}
use Rattle.ee_interface.specs.CommandLine.Operands.{is_decimal_digit}
use Rattle.ee_program.proofs.explain.telling.leave_digits_out.Goals as goal

pub returns : goal.returns
returns g c =
    filter_same _ (λ byte. not (is_decimal_digit byte)) _
    (λ byte stays after called. search (rules, called)) _ _ c.retain.ensures.filtered
