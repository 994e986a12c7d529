use Rattle.std.proofs.Common.{sym, ◌∙◌}
use Rattle.ee_interface.proofs.CommandLineLemmas.Digits.{digits_of_some}
use Rattle.ee_interface.proofs.command_line.operands.finds_digits.Goals as goal

pub returns-in_default : goal.returns-in_default
returns-in_default c =
    c.has_digits_alone.ensures ∙ sym (digits_of_some c.args.word.now c.in_default.len_at_least)
