use Rattle.ee_pages.proofs.BadWords.{one_word_costs_its_value}
use Rattle.ee_pages.proofs.laws.one_word_costs_its_value.Goals as goal

pub returns : goal.returns
returns c =
    λ old new side generation page at word live puts bad told.
    one_word_costs_its_value old new side generation page at word live bad puts told
