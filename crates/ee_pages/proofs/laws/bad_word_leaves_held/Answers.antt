use Rattle.std.proofs.Common.{rules}
use Rattle.ee_pages.proofs.BadWords.{bad_word_leaves_held}
use Rattle.ee_pages.proofs.laws.bad_word_leaves_held.Goals as goal

pub returns : goal.returns
returns c = search (rules, bad_word_leaves_held)
