use Rattle.std.proofs.Common.{arith}
use Rattle.std.proofs.lemmas.Grind.{common_steps}
use Rattle.ee_shell.proofs.dumps.reading.read_cells.Goals as goal

pub returns-in_ok-read_words-in-Words-clause-read
    : goal.returns-in_ok-read_words-in-Words-clause-read
returns-in_ok-read_words-in-Words-clause-read g c = grind (arith, common_steps)
