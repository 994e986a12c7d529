use Rattle.std.proofs.Common.{rules}
use Rattle.ee_pages.proofs.BadWords.{one_word_can_cost_a_set}
use Rattle.ee_pages.proofs.laws.one_word_can_cost_a_set.Goals as goal

pub returns : goal.returns
returns c = search (rules, one_word_can_cost_a_set)
