use Rattle.std.proofs.Common.{sym, ◌∙◌}
use Rattle.ee_interface.proofs.CommandLineLemmas.Bases.{base_spelled}
use Rattle.ee_interface.proofs.command_line.words.digits_of.Goals as goal

pub returns-in-Err-clause-only : goal.returns-in-Err-clause-only
returns-in-Err-clause-only c = λ base fits has.
    cc (sym c.in-Err.is ∙ c.from_hex.ensures ∙ base_spelled c.args.word.now base has)
