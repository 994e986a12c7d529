use Rattle.std.proofs.Common.{rules}
use Rattle.ee_shell.proofs.DumpsLemmas.Words.{erased_bytes, held_bytes}
use Rattle.ee_shell.proofs.dumps.word.word_of.Goals as goal

pub returns-in-18446744073709551615-clause-spelled :
    goal.returns-in-18446744073709551615-clause-spelled
returns-in-18446744073709551615-clause-spelled c =
    erased_bytes c.args.bytes c.from_le_bytes.result (search rules) (search rules)
    c.from_le_bytes.ensures c.in-18446744073709551615.is

pub returns-in_default-clause-spelled : goal.returns-in_default-clause-spelled
returns-in_default-clause-spelled c =
    held_bytes c.args.bytes c.from_le_bytes.result (search rules) (search rules)
    c.from_le_bytes.ensures
