use Rattle.std.proofs.Common.{rules}
use Rattle.ee_text.proofs.numbers.push_number.Goals as goal

pub returns-clause-ok : goal.returns-clause-ok
returns-clause-ok g c = search rules fits 100 parts 0
