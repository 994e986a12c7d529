use Rattle.std.proofs.Common.{rules}
use Rattle.ee_text.proofs.LineFeeds.{lines_of_injective}
use Rattle.ee_text.proofs.laws.texts_tell_lines.Goals as goal

pub returns : goal.returns
returns c = search (rules, lines_of_injective)
